-- Card 13's pairs: the whole sums over the pairs' sums and differences are document 01's, and so are those over the window after its first folding, which leaves the pairs.
use mathlib.Core.List.{List, [], ◌∷◌}
use mathlib.Core.Path.{◌≡◌, refl, sym, ap, ap₂, ◌∙◌}
use Prim.Native.Nat.{ℕ, suc, ◌+◌, ◌-◌, ◌*◌, ◌≤◌}
use native.Mathlib.Nat.{zero-add, zero-mul}
use native.Mathlib.Omega.{arith}
use lib.IntN.{ℤ, neg_ℤ, ◌+ℤ◌, ◌-ℤ◌, ◌*ℤ◌, +ℤ_assoc}
use Rattle.algebra.specs.Sums.{sum_to}
use Rattle.algebra.proofs.Integer.{+ℤ-right-comm}
use Rattle.algebra.proofs.Ring.{variable, ◌⊖◌, ◌⊗◌, ⊝◌, ring}
use Rattle.algebra.proofs.SumTo.{sum_to-same, sum_to-reversed}
use Rattle.sine.specs.Wave.{table_sine, table_cosine}
use Rattle.sine.proofs.Symmetry.{table_sine-start}
use Rattle.windows.specs.Window.{window_length}
use Rattle.spectral_lines.specs.Line.{line_sum}
use Rattle.spectral_lines.specs.Folding.{held_by, paired, place_sum, cosine_of, sine_of}
use Rattle.spectral_lines.specs.Pairs.{cosine_over_pairs, sine_over_pairs, pair_sum, pair_difference}
use Rattle.spectral_lines.proofs.FoldedPlaces.{folded-before, folded_low, folded-middle, folded-high, place_sum-first, place_sum-last, place_sum-rest, fold_same, fold-opposite}
use Rattle.spectral_lines.proofs.LineWaves.{cosine-same, sine-opposite}

-- ---- what the first folding leaves

-- the sum at place j, at its mirror the difference, with the sign that the sine has there, and the samples 0 and 1024 as they were
module _ (window : List ℤ) where
  pub paired-0 : paired (held_by window) 0 ≡ held_by window 0
  paired-0 = folded-before 1 2047 (held_by window) 0 (omega arith)

  pub paired-1024 : paired (held_by window) 1024 ≡ held_by window 1024
  paired-1024 = folded-middle 1 2047 (held_by window) 1024 refl

  module _ (j : ℕ) (some : 1 ≤ j) (most : j ≤ 1023) where
    pub paired-sum : paired (held_by window) j ≡ pair_sum window j
    paired-sum = folded_low 1 2047 (held_by window) j some (omega arith)

    pub paired-difference : paired (held_by window) (window_length - j) ≡ neg_ℤ (pair_difference window j)
    paired-difference =
        let mirror : 1 + 2047 - (window_length - j) ≡ j = omega arith in
        folded-high 1 2047 (held_by window) (window_length - j) (omega arith) (omega arith)
        ∙ ap (λ p. held_by window (window_length - j) -ℤ held_by window p) mirror
        ∙ opposite (held_by window j) (held_by window (window_length - j))
      where
        opposite : (a b : ℤ) → b -ℤ a ≡ neg_ℤ (a -ℤ b)
        opposite a b = let x = variable 0 in let y = variable 1 in ring (y ⊖ x) (⊝ (x ⊖ y)) tt (a ∷ b ∷ [])

-- ---- the whole sums over the paired window

module _ (window : List ℤ) (k : ℕ) where
  by-places : (wave : ℕ → ℤ) → line_sum wave window k ≡ place_sum 0 (suc 2047) (held_by window) (λ p. wave (p * k))
  unfolding line_sum place_sum
  by-places wave = sum_to-same window_length _ _ (λ j below. ap (λ p. held_by window p *ℤ wave (p * k)) (sym (zero-add j)))

  pub line_sum-paired-cosine : line_sum table_cosine window k ≡ place_sum 0 1025 (paired (held_by window)) (cosine_of k)
  line_sum-paired-cosine =
      by-places table_cosine
      ∙ place_sum-first 0 (cosine_of k) 2047 (held_by window)
      ∙ ap₂ (λ a z. a *ℤ cosine_of k 0 +ℤ z)
      (sym (paired-0 window))
      (fold_same 1 1023 1024 2047 refl refl (held_by window) (cosine_of k)
      (λ i below. cosine-same k (2047 - i) (1 + i) 2048 (omega arith) (omega arith)))
      ∙ sym (place_sum-first 0 (cosine_of k) 1024 (paired (held_by window)))

  pub line_sum-paired-sine : line_sum table_sine window k ≡ place_sum 1025 1023 (paired (held_by window)) (sine_of k)
  line_sum-paired-sine =
      by-places table_sine
      ∙ place_sum-rest 0 (sine_of k) 2047 (held_by window) (table_sine-start (0 * k) (omega arith))
      ∙ fold-opposite 1 1023 1024 2047 refl refl (held_by window) (sine_of k)
      (λ i below. sine-opposite k (2047 - i) (1 + i) 2048 (omega arith) (omega arith))
      ∙ place_sum-rest 1024 (sine_of k) 1023 (paired (held_by window)) (table_sine-start (1024 * k) (omega arith))

-- ---- card 13's pairs

module _ (window : List ℤ) (k : ℕ) where
  -- so the whole sums are those over the pairs
  pub cosine_over_pairs-whole : cosine_over_pairs window k ≡ line_sum table_cosine window k
  unfolding cosine_over_pairs place_sum
  cosine_over_pairs-whole =
      let x = held_by window in
      let sample-0 = x 0 *ℤ table_cosine 0 in
      let sample-1024 = x 1024 *ℤ table_cosine (1024 * k) in
      let pairs = sum_to 1023 (λ i. pair_sum window (1 + i) *ℤ cosine_of k (1 + i)) in
      sym (
      line_sum-paired-cosine window k
      ∙ place_sum-first 0 (cosine_of k) 1024 (paired x)
      ∙ ap₂ ◌+ℤ◌
      (ap₂ (λ z m. z *ℤ table_cosine m) (paired-0 window) (zero-mul k))
      (place_sum-last 1 (cosine_of k) 1023 (paired x) ∙ ap₂ ◌+ℤ◌ sums (ap (λ z. z *ℤ table_cosine (1024 * k)) (paired-1024 window)))
      ∙ sym (+ℤ_assoc sample-0 pairs sample-1024)
      ∙ +ℤ-right-comm sample-0 pairs sample-1024)
    where
      sums : place_sum 1 1023 (paired (held_by window)) (cosine_of k) ≡ sum_to 1023 (λ i. pair_sum window (1 + i) *ℤ cosine_of k (1 + i))
      sums = sum_to-same 1023 _ _ (λ i below. ap (λ z. z *ℤ cosine_of k (1 + i)) (paired-sum window (1 + i) (omega arith) (omega arith)))

  pub sine_over_pairs-whole : sine_over_pairs window k ≡ line_sum table_sine window k
  unfolding sine_over_pairs place_sum
  sine_over_pairs-whole = sym (
      line_sum-paired-sine window k
      ∙ sym (sum_to-reversed 1023 (λ i. paired (held_by window) (1025 + i) *ℤ sine_of k (1025 + i)))
      ∙ sum_to-same 1023 _ _ (λ i below.
      let j = 1 + i in
      let place : 1025 + (1023 - suc i) ≡ window_length - j = omega arith in
      let difference = paired-difference window j (omega arith) (omega arith) in
      let opposite = sine-opposite k (window_length - j) j 2048 (omega arith) (omega arith) in
      rw (place, difference, opposite) (both-signs (pair_difference window j) (sine_of k j))))
    where
      both-signs : (a b : ℤ) → neg_ℤ a *ℤ neg_ℤ b ≡ a *ℤ b
      both-signs a b = let x = variable 0 in let y = variable 1 in ring (⊝ x ⊗ ⊝ y) (x ⊗ y) tt (a ∷ b ∷ [])
