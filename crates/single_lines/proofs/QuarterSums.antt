-- A line by itself (card 6): the whole sums over the pairs j and 1024 − j together are document 01's.
use mathlib.Core.Bool.{Bool, true, false, not}
use mathlib.Core.List.{List, [], ◌∷◌}
use mathlib.Core.Path.{◌≡◌, refl, sym, ap, ap₂, ◌∙◌}
use Prim.Native.Nat.{ℕ, ◌+◌, ◌-◌, ◌*◌, ◌%◌, ◌^◌, ◌≤◌, ◌<◌}
use native.Mathlib.Nat.{zero-mul, mul-le-mul}
use native.Mathlib.Omega.{arith}
use borrow.Author.Tests.{eqb-true, eqb-false, not-true, not-false}
use lib.IntN.{ℤ, neg_ℤ, nat_abs, ◌+ℤ◌, ◌-ℤ◌, ◌*ℤ◌}
use mir.Syntax.{w32, w64}
use Rattle.std.proofs.lemmas.Int.{ints}
use Rattle.spectral_lines.proofs.Bounds.{small_line_sum, sum_read}
use Rattle.spectral_lines.proofs.NextSum.{read, Added, added, next-sum}
use Rattle.algebra.specs.Sums.{sum_to}
use Rattle.algebra.proofs.Integer.{nat_abs-*ℤ, nat_abs-+ℤ-le, nat_abs-negℤ}
use Rattle.algebra.proofs.Ring.{variable, ◌⊕◌, ◌⊖◌, ◌⊗◌, ⊝◌, ring}
use Rattle.algebra.proofs.SumTo.{sum_to-same, sum_to-pairs, sum_to-nat_abs-le}
use Rattle.sine.specs.Turn.{turn, half_turn}
use Rattle.sine.specs.Wave.{full_scale, table_sine, table_cosine}
use Rattle.sine.proofs.Wave.{table_sine-le, table_cosine-le}
use Rattle.windows.specs.Window.{window_length, largest_sample}
use Rattle.spectral_lines.specs.Line.{line_sum}
use Rattle.spectral_lines.specs.Folding.{held_by, cosine_of, sine_of}
use Rattle.spectral_lines.specs.Pairs.{pair_sum, pair_difference, cosine_over_pairs, sine_over_pairs}
use Rattle.single_lines.specs.Quarter.{across, is_odd, cosine_across, sine_across, cosine_over_quarter, sine_over_quarter}
use Rattle.spectral_lines.proofs.LineWaves.{cosine-same, cosine-opposite, sine-same, sine-opposite}
use Rattle.spectral_lines.proofs.PairedSums.{cosine_over_pairs-whole, sine_over_pairs-whole}

-- two numbers at places where a wave is opposite, and where it is the same
crossed-wave : (turned : Bool) (a b w z : ℤ) → (turned ≡ true → z ≡ neg_ℤ w) → (turned ≡ false → z ≡ w) → a *ℤ w +ℤ b *ℤ z ≡ across turned a b *ℤ w
crossed-wave true a b w z opposite same =
    let x = variable 0 in let y = variable 1 in let v = variable 2 in
    rw (opposite refl) (ring (x ⊗ v ⊕ y ⊗ ⊝ v) ((x ⊖ y) ⊗ v) tt (a ∷ b ∷ w ∷ []))
crossed-wave false a b w z opposite same =
    let x = variable 0 in let y = variable 1 in let v = variable 2 in
    rw (same refl) (ring (x ⊗ v ⊕ y ⊗ v) ((x ⊕ y) ⊗ v) tt (a ∷ b ∷ w ∷ []))

-- the angle of 1024 places of a line is half a turn more than whole turns where its number is odd
odd-angle : (k : ℕ) → is_odd k ≡ true → (1024 * k) % turn ≡ half_turn
odd-angle k h = let odd = eqb-true (k % 2) 1 h in omega arith

even-angle : (k : ℕ) → is_odd k ≡ false → (1024 * k) % turn ≡ 0
even-angle k h = let even = eqb-false (k % 2) 1 h in omega arith

-- at two places of line k that add up to 1024
module _ (k q p : ℕ) (sum : p + q ≡ 1024) (a b : ℤ) where
  cosines : a *ℤ cosine_of k q +ℤ b *ℤ cosine_of k p ≡ across (is_odd k) a b *ℤ cosine_of k q
  cosines =
      crossed-wave (is_odd k) a b (cosine_of k q) (cosine_of k p)
      (λ odd. cosine-opposite k p q 1024 sum (odd-angle k odd))
      (λ even. cosine-same k p q 1024 sum (even-angle k even))

  sines : a *ℤ sine_of k q +ℤ b *ℤ sine_of k p ≡ across (not (is_odd k)) a b *ℤ sine_of k q
  sines =
      crossed-wave (not (is_odd k)) a b (sine_of k q) (sine_of k p)
      (λ even. sine-opposite k p q 1024 sum (even-angle k (not-true _ even)))
      (λ odd. sine-same k p q 1024 sum (odd-angle k (not-false _ odd)))

-- a sum over the places 1..1023: 1..511 with those that they add up to 1024 with, and 512
around-512 : (f g : ℕ → ℤ) → ((i : ℕ) → i < 511 → f (1 + i) +ℤ f (1024 - (1 + i)) ≡ g (1 + i)) →
    sum_to 1023 (λ i. f (1 + i)) ≡ sum_to 511 (λ i. g (1 + i)) +ℤ f 512
around-512 f g both =
    sum_to-pairs 511 (λ i. f (1 + i))
    ∙ ap (λ z. z +ℤ f 512) (sum_to-same 511 _ _ (λ i below.
    let mirror : 1 + (2 * 511 - i) ≡ 1024 - (1 + i) = omega arith in
    ap (λ p. f (1 + i) +ℤ f p) mirror ∙ both i below))

module _ (window : List ℤ) (k : ℕ) where
  pub cosine_over_quarter-whole : cosine_over_quarter window k ≡ line_sum table_cosine window k
  unfolding cosine_over_quarter cosine_over_pairs
  cosine_over_quarter-whole =
      let ends = across (is_odd k) (held_by window 0) (held_by window 1024) *ℤ table_cosine 0 in
      let quarter = sum_to 511 (λ i. cosine_across window k (1 + i) *ℤ cosine_of k (1 + i)) in
      let middle = pair_sum window 512 *ℤ cosine_of k 512 in
      sym (
      sym (cosine_over_pairs-whole window k)
      ∙ ap₂ ◌+ℤ◌
      samples-0-and-1024
      (around-512 (λ p. pair_sum window p *ℤ cosine_of k p) (λ p. cosine_across window k p *ℤ cosine_of k p)
      (λ i below. cosines k (1 + i) (1024 - (1 + i)) (omega arith) (pair_sum window (1 + i)) (pair_sum window (1024 - (1 + i)))))
      ∙ last-two ends quarter middle)
    where
      samples-0-and-1024 :
          held_by window 0 *ℤ table_cosine 0 +ℤ held_by window 1024 *ℤ table_cosine (1024 * k)
          ≡ across (is_odd k) (held_by window 0) (held_by window 1024) *ℤ table_cosine 0
      samples-0-and-1024 = rw (zero-mul k) at (cosines k 0 1024 refl (held_by window 0) (held_by window 1024))

      last-two : (ends quarter middle : ℤ) → ends +ℤ (quarter +ℤ middle) ≡ quarter +ℤ ends +ℤ middle
      last-two ends quarter middle =
          let x = variable 0 in let y = variable 1 in let z = variable 2 in
          ring (x ⊕ (y ⊕ z)) (y ⊕ x ⊕ z) tt (ends ∷ quarter ∷ middle ∷ [])

  pub sine_over_quarter-whole : sine_over_quarter window k ≡ line_sum table_sine window k
  unfolding sine_over_quarter sine_over_pairs
  sine_over_quarter-whole = sym (
      sym (sine_over_pairs-whole window k)
      ∙ around-512 (λ p. pair_difference window p *ℤ sine_of k p) (λ p. sine_across window k p *ℤ sine_of k p)
      (λ i below. sines k (1 + i) (1024 - (1 + i)) (omega arith) (pair_difference window (1 + i)) (pair_difference window (1024 - (1 + i)))))

-- ---- how large the numbers are, and the sums over the first of them

-- two numbers that are small are added, and taken from each other, in 32 bits
module _ (a b : ℤ) (a_small : nat_abs a ≤ 2 ^ 29) (b_small : nat_abs b ≤ 2 ^ 29) where
  pub added_read : read w32 (read w32 a +ℤ read w32 b) ≡ a +ℤ b
  added_read = omega (arith, ints)

  pub difference_read : read w32 (read w32 a -ℤ read w32 b) ≡ a -ℤ b
  difference_read = omega (arith, ints)

pub ruleset crossed = (added_read, difference_read)

across-small : (odd : Bool) (a b : ℤ) (most : ℕ) → nat_abs a ≤ most → nat_abs b ≤ most → nat_abs (across odd a b) ≤ 2 * most
across-small true a b most g h = omega (arith, nat_abs-+ℤ-le a (neg_ℤ b), nat_abs-negℤ b)
across-small false a b most g h = omega (arith, nat_abs-+ℤ-le a b)

module _ (window : List ℤ) (small : (j : ℕ) → nat_abs (held_by window j) ≤ largest_sample) where
  pub pair_sum-small : (p : ℕ) → nat_abs (pair_sum window p) ≤ 2 * largest_sample
  pair_sum-small p =
      across-small false (held_by window p) (held_by window (window_length - p)) largest_sample
      (small p) (small (window_length - p))

  pub pair_difference-small : (p : ℕ) → nat_abs (pair_difference window p) ≤ 2 * largest_sample
  pair_difference-small p =
      across-small true (held_by window p) (held_by window (window_length - p)) largest_sample
      (small p) (small (window_length - p))

  pub ends_across-small : (k : ℕ) → nat_abs (across (is_odd k) (held_by window 0) (held_by window 1024)) ≤ 2 * largest_sample
  ends_across-small k =
      across-small (is_odd k) (held_by window 0) (held_by window 1024) largest_sample (small 0) (small 1024)

  pub cosine_across-small : (k j : ℕ) → nat_abs (cosine_across window k j) ≤ 4 * largest_sample
  cosine_across-small k j = across-small (is_odd k) (pair_sum window j) (pair_sum window (1024 - j)) (2 * largest_sample) (pair_sum-small j) (pair_sum-small (1024 - j))

  pub sine_across-small : (k j : ℕ) → nat_abs (sine_across window k j) ≤ 4 * largest_sample
  sine_across-small k j = across-small (not (is_odd k)) (pair_difference window j) (pair_difference window (1024 - j)) (2 * largest_sample) (pair_difference-small j) (pair_difference-small (1024 - j))

-- the sum over the places 1..n, of 511 at most, of what such numbers give
pub quarter-sum-small : (number wave : ℕ → ℤ) → ((j : ℕ) → nat_abs (number j) ≤ 4 * largest_sample) → ((j : ℕ) → nat_abs (wave j) ≤ full_scale) →
    (n : ℕ) → n ≤ 511 → nat_abs (sum_to n (λ i. number (1 + i) *ℤ wave (1 + i))) < 2 ^ 58
quarter-sum-small number wave number-le wave-le n within =
    omega (
      arith,
      sum_to-nat_abs-le n (4 * largest_sample * full_scale) (λ i. number (1 + i) *ℤ wave (1 + i))
          (λ i below. rw nat_abs-*ℤ (mul-le-mul (number-le (1 + i)) (wave-le (1 + i)))),
    )

-- ---- one place more, as a loop adds it up

pub next-place :
    (f wave : ℕ → ℤ) (j : ℕ) (sum product number factor : ℤ) →
    ((p : ℕ) → nat_abs (f p) ≤ 4 * largest_sample) →
    ((p : ℕ) → nat_abs (wave p) ≤ full_scale) →
    1 ≤ j →
    j ≤ 511 →
    sum ≡ sum_to (j - 1) (λ i. f (1 + i) *ℤ wave (1 + i)) →
    number ≡ f j →
    factor ≡ wave j →
    product ≡ read w32 number *ℤ read w32 factor →
    Added sum product (sum_to (j + 1 - 1) (λ i. f (1 + i) *ℤ wave (1 + i)))
next-place f wave j sum product number factor f_le wave-le some most is number_is factor_is product-is =
    let small = quarter-sum-small f wave f_le wave-le (j - 1) (omega arith) in
    let place : j ≡ 1 + (j - 1) = omega arith in
    let more : j + 1 - 1 ≡ j - 1 + 1 = omega arith in
    rw more
    (next-sum (λ i. f (1 + i)) (λ i. wave (1 + i)) (j - 1) sum product number factor
    (omega (arith, small)) (omega (arith, f_le (1 + (j - 1)))) (wave-le (1 + (j - 1))) is
    (number_is ∙ ap f place) (factor_is ∙ ap wave place) product-is)

-- the window's sums
module _ (window : List ℤ) (small : (j : ℕ) → nat_abs (held_by window j) ≤ largest_sample) (k j : ℕ) (some : 1 ≤ j) (most : j ≤ 511)
    (odd : Bool) (parity : odd ≡ is_odd k) (sum product number factor : ℤ) where
  pub next-cosine :
      sum ≡ sum_to (j - 1) (λ i. cosine_across window k (1 + i) *ℤ table_cosine ((1 + i) * k)) →
      number ≡ across odd (pair_sum window j) (pair_sum window (1024 - j)) →
      factor ≡ table_cosine (j * k) →
      product ≡ read w32 number *ℤ read w32 factor →
      Added sum product (sum_to (j + 1 - 1) (λ i. cosine_across window k (1 + i) *ℤ table_cosine ((1 + i) * k)))
  next-cosine is number_is =
      next-place (cosine_across window k) (λ p. table_cosine (p * k)) j sum product number factor
      (cosine_across-small window small k) (λ p. table_cosine-le (p * k)) some most is (rw parity at number_is)

  pub next-sine :
      sum ≡ sum_to (j - 1) (λ i. sine_across window k (1 + i) *ℤ table_sine ((1 + i) * k)) →
      number ≡ across (not odd) (pair_difference window j) (pair_difference window (1024 - j)) →
      factor ≡ table_sine (j * k) →
      product ≡ read w32 number *ℤ read w32 factor →
      Added sum product (sum_to (j + 1 - 1) (λ i. sine_across window k (1 + i) *ℤ table_sine ((1 + i) * k)))
  next-sine is number_is =
      next-place (sine_across window k) (λ p. table_sine (p * k)) j sum product number factor
      (sine_across-small window small k) (λ p. table_sine-le (p * k)) some most is (rw parity at number_is)

-- ---- the samples that are left over

-- a product more, of a number of two samples
pub product-more-small : (sum number wave : ℤ) (bound : ℕ) → nat_abs sum < bound → nat_abs number ≤ 2 * largest_sample → nat_abs wave ≤ full_scale →
    nat_abs (sum +ℤ number *ℤ wave) < bound + 2 ^ 48
product-more-small sum number wave bound h small wave-le =
    omega (arith, nat_abs-+ℤ-le sum (number *ℤ wave), nat_abs-*ℤ number wave, mul-le-mul small wave-le)

module _ (window : List ℤ) (small : (j : ℕ) → nat_abs (held_by window j) ≤ largest_sample) (k : ℕ) where
  abbrev cosine_sum : ℤ
  cosine_sum = sum_to 511 (λ i. cosine_across window k (1 + i) *ℤ table_cosine ((1 + i) * k))

  abbrev sine_sum : ℤ
  sine_sum = sum_to 511 (λ i. sine_across window k (1 + i) *ℤ table_sine ((1 + i) * k))

  abbrev ends : ℤ
  ends = across (is_odd k) (held_by window 0) (held_by window 1024)

  pub cosine_sum-small : nat_abs cosine_sum < 2 ^ 58
  cosine_sum-small = quarter-sum-small (cosine_across window k) (λ p. table_cosine (p * k)) (cosine_across-small window small k) (λ p. table_cosine-le (p * k)) 511 (omega arith)

  pub sine_sum-small : nat_abs sine_sum < 2 ^ 58
  sine_sum-small = quarter-sum-small (sine_across window k) (λ p. table_sine (p * k)) (sine_across-small window small k) (λ p. table_sine-le (p * k)) 511 (omega arith)

  -- the sum with the samples 0 and 1024, which an odd line takes from each other
  module _ (sum product number factor : ℤ) (odd : Bool) (parity : odd ≡ is_odd k) (is : sum ≡ cosine_sum)
      (number_is : number ≡ across odd (held_by window 0) (held_by window 1024)) (factor_is : factor ≡ table_cosine 0)
      (product-is : product ≡ read w32 number *ℤ read w32 factor) where
    pub with-ends : Added (read w64 sum) product (cosine_sum +ℤ ends *ℤ table_cosine 0)
    with-ends =
        added cosine_sum ends (table_cosine 0) (read w64 sum) product number factor
        (omega (arith, cosine_sum-small)) (omega (arith, ends_across-small window small k)) (table_cosine-le 0)
        (rw is (sum_read cosine_sum cosine_sum-small)) (rw parity at number_is) factor_is product-is

    -- and with the pair 512
    pub whole-cosine : (product-2 number-2 factor-2 : ℤ) → number-2 ≡ pair_sum window 512 → factor-2 ≡ table_cosine (512 * k) →
        product-2 ≡ read w32 number-2 *ℤ read w32 factor-2 →
        Added (read w64 (read w64 sum +ℤ read w64 product)) product-2 (line_sum table_cosine window k)
    unfolding cosine_over_quarter
    whole-cosine product-2 number-2 factor-2 number-2_is factor-2_is product-2-is =
        let before = product-more-small cosine_sum ends (table_cosine 0) (2 ^ 58) cosine_sum-small (ends_across-small window small k) (table_cosine-le 0) in
        rw (← cosine_over_quarter-whole window k)
        (added (cosine_sum +ℤ ends *ℤ table_cosine 0) (pair_sum window 512) (table_cosine (512 * k)) (read w64 (read w64 sum +ℤ read w64 product)) product-2 number-2 factor-2
        (omega (arith, before)) (omega (arith, pair_sum-small window small 512)) (table_cosine-le (512 * k)) with-ends.is number-2_is factor-2_is product-2-is)

  pub whole-sine : (sum product number factor : ℤ) → sum ≡ sine_sum → number ≡ pair_difference window 512 → factor ≡ table_sine (512 * k) →
      product ≡ read w32 number *ℤ read w32 factor →
      Added (read w64 sum) product (line_sum table_sine window k)
  unfolding sine_over_quarter
  whole-sine sum product number factor is number_is factor_is product-is =
      rw (← sine_over_quarter-whole window k)
      (added sine_sum (pair_difference window 512) (table_sine (512 * k)) (read w64 sum) product number factor
      (omega (arith, sine_sum-small)) (omega (arith, pair_difference-small window small 512)) (table_sine-le (512 * k))
      (rw is (sum_read sine_sum sine_sum-small)) number_is factor_is product-is)

  -- both stay small
  pub whole-cosine-small : nat_abs (line_sum table_cosine window k) < 2 ^ 58
  whole-cosine-small = small_line_sum window small table_cosine table_cosine-le k

  pub whole-sine-small : nat_abs (line_sum table_sine window k) < 2 ^ 58
  whole-sine-small = small_line_sum window small table_sine table_sine-le k
