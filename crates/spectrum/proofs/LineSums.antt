-- How large a folded window's numbers and a line's sums over them are (card 13), and one such sum as a loop adds it up.
use mathlib.Core.List.{List}
use mathlib.Core.Path.{◌≡◌, ap, ◌∙◌}
use Prim.Native.Nat.{ℕ, suc, ◌+◌, ◌-◌, ◌*◌, ◌/◌, ◌%◌, ◌^◌, ◌≤◌, ◌<◌}
use native.Mathlib.Nat.{le_trans, lt_of_lt_of_le, mul-le-mul, mul-le-mul_left, mul-le-mul_right, le-div_iff_mul-le, mul-div-le}
use native.Mathlib.Numerals.{add-one}
use native.Mathlib.Omega.{arith}
use lib.IntN.{ℤ, pos, nat_abs, ◌*ℤ◌}
use lib.ListN.{take, drop}
use lib.Seq.{get_or-take, get_or-drop}
use mir.Syntax.{w32}
use Rattle.algebra.specs.Sums.{sum_to}
use Rattle.algebra.proofs.Integer.{nat_abs-*ℤ}
use Rattle.algebra.proofs.SumTo.{sum_to-nat_abs-le}
use Rattle.sine.specs.Turn.{turn, quarter_turn}
use Rattle.sine.specs.Wave.{full_scale, table_cosine, wave_list}
use Rattle.sine.proofs.Wave.{table_cosine-le, wave_list-at-mod}
use Rattle.spectral_lines.specs.Folding.{held_by, place_sum, cosine_of}
use Rattle.spectral_lines.proofs.NextSum.{read, Added, next-sum}
use Rattle.folding.specs.Halving.{largest_folded}
use Rattle.spectrum.specs.LinePlaces.{EndsAt, sine_ahead}
use Rattle.spectrum.specs.Prepared.{SumsFit}

-- what the sine's sum takes at the cosine's place
abbrev pub ahead : (ℕ → ℤ) → ℕ → ℕ → ℤ
ahead f half p = f (p + sine_ahead half)

-- a sum over at most `count` numbers that, times count, are so small, is below 2^58, as document 01's sums are
pub sum_fits-le : (count n : ℕ) (f wave : ℕ → ℤ) → 1 ≤ count → n ≤ count → ((i : ℕ) → nat_abs (wave i) ≤ full_scale) →
    ((i : ℕ) → i < n → nat_abs (f i) * count ≤ largest_folded) →
    nat_abs (sum_to n (λ i. f i *ℤ wave i)) < 2 ^ 58
sum_fits-le count n f wave some few wave-le Fits-one =
    let most = largest_folded / count in
    let each : nat_abs (sum_to n (λ i. f i *ℤ wave i)) ≤ n * (most * full_scale) =
    sum_to-nat_abs-le n (most * full_scale) _
    (λ i below. rw nat_abs-*ℤ (mul-le-mul ((le-div_iff_mul-le some).1 (Fits-one i below)) (wave-le i))) in
    let all : n * most ≤ largest_folded = le_trans (mul-le-mul_right most few) (mul-div-le largest_folded count) in
    omega (arith, each, mul-le-mul_right full_scale all)

-- the numbers at the places half + 1 .. 2·half, times half, are so small
pub record PlacesFit (g : ℕ → ℤ) (half : ℕ) : Type 0 where
  pub each : (i : ℕ) → i < half → nat_abs (g (suc half + i)) * half ≤ largest_folded

module _ (f : ℕ → ℤ) (fit : SumsFit f) (k half : ℕ) (ends : EndsAt k half) where
  -- the numbers that the halving at half left
  left-small : (p : ℕ) → half < p → p < 2049 - half → nat_abs (f p) * half ≤ largest_folded
  left-small p above below =
      rw ends.is-power (fit.left ends.power ends.few p (rw ends.is-power at above) (rw ends.is-power at below))

  pub cosine-fits : PlacesFit f half
  cosine-fits = record { each = λ i below. left-small (suc half + i) (omega arith) (omega (arith, ends.most)) }

  pub sine-fits : PlacesFit (ahead f half) half
  sine-fits = record { each = λ i below. left-small (suc half + i + sine_ahead half) (omega (arith, ends.most)) (omega (arith, ends.most)) }

-- a sum over the first i of these places
pub sum-small : (g : ℕ → ℤ) (k half i : ℕ) → PlacesFit g half → 1 ≤ half → i ≤ half → nat_abs (place_sum (suc half) i g (cosine_of k)) < 2 ^ 58
unfolding place_sum
sum-small g k half i fit some few =
    sum_fits-le half i (λ j. g (suc half + j)) (λ j. cosine_of k (suc half + j)) some few
    (λ j. table_cosine-le ((suc half + j) * k))
    (λ j below. fit.each j (lt_of_lt_of_le below few))

-- ---- one place more, whose number and cosine a loop reads from their lists

-- a part of a list, by its two ends
abbrev pub cut : List ℤ → ℕ → ℕ → List ℤ
cut list first count = take (first + count - first) (drop first list)

cut-held : (list : List ℤ) (first count i : ℕ) → i < count → held_by (cut list first count) i ≡ held_by list (first + i)
cut-held list first count i below =
    let width : first + count - first ≡ count = omega arith in
    rw width (get_or-take count (drop first list) i (pos 0) below ∙ get_or-drop first list i (pos 0))

module _ (folded wave : List ℤ) (fit : SumsFit (held_by folded)) (one-turn : wave ≡ wave_list) (k half : ℕ) (ends : EndsAt k half)
    (i index : ℕ) (below : i < half) (angle : index ≡ ((half + 1 + i) * k + quarter_turn) % turn) (sum product : ℤ) where
  abbrev f : ℕ → ℤ
  f = held_by folded

  next-place :
      (g : ℕ → ℤ) (number : ℤ) → PlacesFit g half → number ≡ g (suc half + i) →
      sum ≡ place_sum (suc half) i g (cosine_of k) → product ≡ read w32 number *ℤ read w32 (held_by wave index) →
      Added sum product (place_sum (suc half) (i + 1) g (cosine_of k))
  unfolding place_sum table_cosine
  next-place g number fits there is product-is =
      let size = nat_abs (g (suc half + i)) in
      let small = sum-small g k half i fits ends.some (omega arith) in
      let factor : held_by wave index ≡ cosine_of k (suc half + i) =
      rw (one-turn, angle, add-one half) (wave_list-at-mod ((suc half + i) * k + quarter_turn)) in
      next-sum (λ j. g (suc half + j)) (λ j. cosine_of k (suc half + j)) i sum product number (held_by wave index)
      (omega (arith, small)) (omega (arith, fits.each i below, mul-le-mul_left size ends.some)) (table_cosine-le ((suc half + i) * k)) is there factor product-is

  pub next-cosine : sum ≡ place_sum (suc half) i f (cosine_of k) → product ≡ read w32 (held_by (cut folded (half + 1) half) i) *ℤ read w32 (held_by wave index) → Added sum product (place_sum (suc half) (i + 1) f (cosine_of k))
  next-cosine =
      next-place f (held_by (cut folded (half + 1) half) i) (cosine-fits f fit k half ends) (cut-held folded (half + 1) half i below ∙ ap (λ p. f (p + i)) (add-one half))

  pub next-sine :
      sum ≡ place_sum (suc half) i (ahead f half) (cosine_of k) → product ≡ read w32 (held_by (cut folded (half + 1 + sine_ahead half) half) i) *ℤ read w32 (held_by wave index) →
      Added sum product (place_sum (suc half) (i + 1) (ahead f half) (cosine_of k))
  next-sine = let place : half + 1 + sine_ahead half + i ≡ suc half + i + sine_ahead half = omega arith in
      next-place (ahead f half) (held_by (cut folded (half + 1 + sine_ahead half) half) i) (sine-fits f fit k half ends)
      (cut-held folded (half + 1 + sine_ahead half) half i below ∙ ap f place)
