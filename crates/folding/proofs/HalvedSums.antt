-- Halving changes no sum (card 13): one halving, for a line that goes on and for one that ends with it, at any half length up to 512; and all of them, so that the sums over a folded window are document 01's.
use mathlib.Core.List.{List}
use mathlib.Core.Logic.{⊎_elim}
use mathlib.Core.Path.{◌≡◌, refl, sym, ap, ◌∙◌}
use Prim.Native.Nat.{ℕ, zero, suc, ◌+◌, ◌-◌, ◌*◌, ◌%◌, ◌^◌, ◌≤◌, ◌<◌}
use native.Mathlib.Nat.{pow-succ', eq-or-lt_of_le, le_of_suc-le-suc, not-suc-le-zero}
use native.Mathlib.Omega.{arith}
use lib.IntN.{ℤ}
use lib.Pow.{pow_pos, pow_mono}
use Rattle.sine.specs.Turn.{turn, half_turn, quarter_turn}
use Rattle.sine.specs.Wave.{table_sine, table_cosine}
use Rattle.sine.proofs.Symmetry.{table_sine-start, table_cosine-quarter}
use Rattle.spectral_lines.specs.Line.{line_sum}
use Rattle.spectral_lines.specs.Folding.{held_by, folded, paired, place_sum, cosine_of, sine_of}
use Rattle.folding.specs.Halving.{halved, halved_from, folded_window}
use Rattle.spectral_lines.proofs.FoldedPlaces.{folded-before, folded_after, place_sum-same, place_sum-rest, fold_same, fold-opposite}
use Rattle.spectral_lines.proofs.LineWaves.{angles, cosine-same, cosine-opposite, sine-same, sine-opposite}
use Rattle.spectral_lines.proofs.PairedSums.{line_sum-paired-cosine, line_sum-paired-sine}

-- ---- one halving

-- an angle that twice another brings to whole turns
back-to-turn : (a b k : ℕ) → a + 2 * b ≡ 2 * turn * k → b % half_turn ≡ 0 → a % turn ≡ 0
back-to-turn a b k sum h = omega arith

back-to-half : (a b k : ℕ) → a + 2 * b ≡ 2 * turn * k → b % half_turn ≡ quarter_turn → a % turn ≡ half_turn
back-to-half a b k sum h = omega arith

module _ (half k : ℕ) (some : 1 ≤ half) (most : half ≤ 512) (f : ℕ → ℤ) where
  pub low-places : (p : ℕ) → p ≤ 2 * half → folded 0 (2 * half) f p ≡ halved half f p
  unfolding halved
  low-places p h = sym (folded-before (2049 - 2 * half) 2047 (folded 0 (2 * half) f) p (omega arith))

  pub cosine-on : (half * k) % half_turn ≡ 0 → place_sum 0 (2 * half + 1) f (cosine_of k) ≡ place_sum 0 (suc half) (halved half f) (cosine_of k)
  cosine-on h =
      fold_same 0 half half (2 * half) (omega arith) (omega arith) f (cosine_of k)
      (λ i below. cosine-same k (2 * half - i) (0 + i) (2 * half) (omega arith) (omega arith))
      ∙ place_sum-same 0 (cosine_of k) (suc half) _ _ (λ i below. low-places (0 + i) (omega arith))

  pub cosine-end : (half * k) % half_turn ≡ quarter_turn → place_sum 0 (2 * half + 1) f (cosine_of k) ≡ place_sum (suc half) half (halved half f) (cosine_of k)
  cosine-end h =
      fold-opposite 0 half half (2 * half) (omega arith) (omega arith) f (cosine_of k)
      (λ i below. cosine-opposite k (2 * half - i) (0 + i) (2 * half) (omega arith) (omega arith))
      ∙ place_sum-rest half (cosine_of k) half (folded 0 (2 * half) f) (table_cosine-quarter (half * k) h)
      ∙ place_sum-same (suc half) (cosine_of k) half _ _ (λ i below. low-places (suc half + i) (omega arith))

  -- the sine's places, of which n = half − 1 lie on either side of the middle
  abbrev n : ℕ
  n = half - 1

  abbrev sine-first : ℕ
  sine-first = 2049 - 2 * half

  -- the cosine's folding does not reach them
  sine-places : place_sum sine-first (2 * half - 1) f (sine_of k) ≡ place_sum sine-first (2 * n + 1) (folded 0 (2 * half) f) (sine_of k)
  sine-places =
      let count : 2 * half - 1 ≡ 2 * n + 1 = omega arith in
      rw count
      (place_sum-same sine-first (sine_of k) (2 * n + 1) _ _ (λ i below. sym (folded_after 0 (2 * half) f (sine-first + i) (omega arith))))

  -- the angle of two mirrored ones
  sine-angle : (sine-first + 2047) * k + 2 * (half * k) ≡ 2 * turn * k
  sine-angle = let sum = angles k (sine-first + 2047) (2 * half) (2 * turn) (omega arith) in omega (arith, sum)

  pub sine-on : (half * k) % half_turn ≡ 0 → place_sum sine-first (2 * half - 1) f (sine_of k) ≡ place_sum (2049 - half) (half - 1) (halved half f) (sine_of k)
  unfolding halved
  sine-on h =
      let next : suc (2048 - half) ≡ 2049 - half = omega arith in
      let middle = angles k (2048 - half) half 2048 (omega arith) in
      sine-places
      ∙ fold-opposite sine-first n (2048 - half) 2047 (omega arith) (omega arith) (folded 0 (2 * half) f) (sine_of k)
      (λ i below. sine-opposite k (2047 - i) (sine-first + i) (sine-first + 2047) (omega arith) (back-to-turn ((sine-first + 2047) * k) (half * k) k sine-angle h))
      ∙ place_sum-rest (2048 - half) (sine_of k) n (halved half f) (table_sine-start ((2048 - half) * k) (omega (arith, middle)))
      ∙ ap (λ p. place_sum p n (halved half f) (sine_of k)) next

  pub sine-end : (half * k) % half_turn ≡ quarter_turn → place_sum sine-first (2 * half - 1) f (sine_of k) ≡ place_sum sine-first half (halved half f) (sine_of k)
  unfolding halved
  sine-end h =
      let count : suc n ≡ half = omega arith in
      sine-places
      ∙ fold_same sine-first n (2048 - half) 2047 (omega arith) (omega arith) (folded 0 (2 * half) f) (sine_of k)
      (λ i below. sine-same k (2047 - i) (sine-first + i) (sine-first + 2047) (omega arith) (back-to-half ((sine-first + 2047) * k) (half * k) k sine-angle h))
      ∙ ap (λ m. place_sum sine-first m (halved half f) (sine_of k)) count

-- ---- all halvings

pub at-most-512 : (d : ℕ) → d ≤ 9 → 2 ^ d ≤ 512
at-most-512 d few = pow_mono few

-- what a halving leaves above its places stays
pub halved_from-keeps : (d : ℕ) → d ≤ 9 → (f : ℕ → ℤ) (p : ℕ) → 2 ^ d < p → p < 2049 - 2 ^ d → halved_from d f p ≡ f p
unfolding halved_from halved
halved_from-keeps zero few f p above below = refl
halved_from-keeps (suc d) few f p above below =
    halved_from-keeps d (omega arith) (halved (2 ^ d) f) p (omega (arith, pow-succ' 2 d)) (omega (arith, pow-succ' 2 d))
    ∙ folded-before (2049 - 2 * 2 ^ d) 2047 (folded 0 (2 * 2 ^ d) f) p (omega (arith, pow-succ' 2 d))
    ∙ folded_after 0 (2 * 2 ^ d) f p (omega (arith, pow-succ' 2 d))

-- a sum R over 2^d places, which are halved next, is the sum E over those that the halving at 2^c leaves, if each halving before hands it on, that one ends it, and the later ones keep what it left
module _ (c : ℕ) (R : ℕ → (ℕ → ℤ) → ℤ) (E : (ℕ → ℤ) → ℤ)
    (on : (d : ℕ) → c < d → d ≤ 9 → (f : ℕ → ℤ) → R (suc d) f ≡ R d (halved (2 ^ d) f))
    (end : (f : ℕ → ℤ) → R (suc c) f ≡ E (halved (2 ^ c) f))
    (kept : (f : ℕ → ℤ) → E (halved_from c f) ≡ E f) where
  ends : (d : ℕ) → c < d → d ≤ 10 → (f : ℕ → ℤ) → R d f ≡ E (halved_from d f)
  unfolding halved_from
  ends zero after few f = absurd (not-suc-le-zero after)
  ends (suc d) after few f =
      ⊎_elim
      (λ (here : c ≡ d). rw (← here) (end f ∙ sym (kept (halved (2 ^ c) f))))
      (λ (later : c < d). on d later (omega arith) f ∙ ends d later (omega arith) (halved (2 ^ d) f))
      (eq-or-lt_of_le (le_of_suc-le-suc after))

-- line k ends at the halving at 2^c, where 2^c × k is an odd number of quarter turns
module _ (c k : ℕ) (few : c ≤ 9) (odd : (2 ^ c * k) % half_turn ≡ quarter_turn) where
  abbrev half : ℕ
  half = 2 ^ c

  -- before it the angle is a whole number of half turns
  even-before : (d : ℕ) → c < d → (2 ^ d * k) % half_turn ≡ 0
  even-before zero after = absurd (not-suc-le-zero after)
  even-before (suc d) after =
      let twice = ap (λ n. n * k) (pow-succ' 2 d) in
      ⊎_elim
      (λ (here : c ≡ d). let same = ap (λ n. 2 ^ n * k) here in omega (arith, twice, same, odd))
      (λ (later : c < d). let before = even-before d later in omega (arith, twice, before))
      (eq-or-lt_of_le (le_of_suc-le-suc after))

  kept-places : (first : ℕ) → half < first → first + half ≤ 2049 - half → (f wave : ℕ → ℤ) → place_sum first half (halved_from c f) wave ≡ place_sum first half f wave
  kept-places first above below f wave =
      place_sum-same first wave half _ _ (λ i inside. halved_from-keeps c few f (first + i) (omega arith) (omega arith))

  pub cosine-ends : (d : ℕ) → c < d → d ≤ 10 → (f : ℕ → ℤ) → place_sum 0 (suc (2 ^ d)) f (cosine_of k) ≡ place_sum (suc half) half (halved_from d f) (cosine_of k)
  cosine-ends =
      ends c (λ d f. place_sum 0 (suc (2 ^ d)) f (cosine_of k)) (λ f. place_sum (suc half) half f (cosine_of k))
      (λ d after few f.
      let count : suc (2 ^ suc d) ≡ 2 * 2 ^ d + 1 = omega (arith, pow-succ' 2 d) in
      rw count (cosine-on (2 ^ d) k (pow_pos d) (at-most-512 d few) f (even-before d after)))
      (λ f.
      let count : suc (2 ^ suc c) ≡ 2 * half + 1 = omega (arith, pow-succ' 2 c) in
      rw count (cosine-end half k (pow_pos c) (at-most-512 c few) f odd))
      (λ f. kept-places (suc half) (omega arith) (omega (arith, at-most-512 c few)) f (cosine_of k))

  pub sine-ends : (d : ℕ) → c < d → d ≤ 10 → (f : ℕ → ℤ) → place_sum (2049 - 2 ^ d) (2 ^ d - 1) f (sine_of k) ≡ place_sum (2049 - 2 * half) half (halved_from d f) (sine_of k)
  sine-ends =
      ends c (λ d f. place_sum (2049 - 2 ^ d) (2 ^ d - 1) f (sine_of k)) (λ f. place_sum (2049 - 2 * half) half f (sine_of k))
      (λ d after few f. rw (pow-succ' 2 d) (sine-on (2 ^ d) k (pow_pos d) (at-most-512 d few) f (even-before d after)))
      (λ f. rw (pow-succ' 2 c) (sine-end half k (pow_pos c) (at-most-512 c few) f odd))
      (λ f. kept-places (2049 - 2 * half) (omega (arith, at-most-512 c few)) (omega (arith, at-most-512 c few)) f (sine_of k))

  -- so the sums over a folded window are document 01's
  pub folded-cosine : (window : List ℤ) → place_sum (suc half) half (folded_window window) (cosine_of k) ≡ line_sum table_cosine window k
  unfolding folded_window
  folded-cosine window = sym (line_sum-paired-cosine window k ∙ cosine-ends 10 (omega arith) (omega arith) (paired (held_by window)))

  pub folded-sine : (window : List ℤ) → place_sum (2049 - 2 * half) half (folded_window window) (sine_of k) ≡ line_sum table_sine window k
  unfolding folded_window
  folded-sine window = sym (line_sum-paired-sine window k ∙ sine-ends 10 (omega arith) (omega arith) (paired (held_by window)))

-- line 0 has no end: the two places that are left after all halvings
pub folded-0 : (window : List ℤ) → place_sum 0 2 (folded_window window) (cosine_of 0) ≡ line_sum table_cosine window 0
unfolding folded_window halved_from
folded-0 window = sym (line_sum-paired-cosine window 0 ∙ goes_on 10 (omega arith) (paired (held_by window)))
  where
    goes_on : (d : ℕ) → d ≤ 10 → (f : ℕ → ℤ) → place_sum 0 (suc (2 ^ d)) f (cosine_of 0) ≡ place_sum 0 2 (halved_from d f) (cosine_of 0)
    goes_on zero few f = refl
    goes_on (suc d) few f =
        let count : suc (2 ^ suc d) ≡ 2 * 2 ^ d + 1 = omega (arith, pow-succ' 2 d) in
        rw count (cosine-on (2 ^ d) 0 (pow_pos d) (at-most-512 d (omega arith)) f (omega arith))
        ∙ goes_on d (omega arith) (halved (2 ^ d) f)
