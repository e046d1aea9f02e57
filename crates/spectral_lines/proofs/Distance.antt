-- How far a rounded sum is from the exact one (document 01, demand 3; the step from the table to a line): at most three quarters.
-- The table is within half a unit of the exact wave at each index, which moves a sum of 2,048 samples in range by less than a quarter once it is divided by 2^29; the rounding adds a half.
-- All is stated over whole numbers: the exact sums are numerators over the exact sine's denominator.
use mathlib.Core.Bool.{false}
use mathlib.Core.List.{List, [], ◌∷◌}
use mathlib.Core.Path.{◌≡◌, sym, ap, ap₂, ◌∙◌}
use Prim.Native.Nat.{ℕ, ◌*◌, ◌/◌, ◌≤◌}
use native.Mathlib.Nat.{mul-le-mul, mul-le-mul_left}
use native.Mathlib.Omega.{arith}
use lib.IntN.{ℤ, pos, neg_ℤ, nat_abs, ◌-ℤ◌, ◌*ℤ◌}
use lib.ListN.{get_or}
use Rattle.std.specs.List.{list_any}
use Rattle.algebra.specs.Sums.{sum_to}
use Rattle.algebra.proofs.Integer.{nat_abs-negℤ, nat_abs-*ℤ, nat_abs-+ℤ-le}
use Rattle.algebra.proofs.Ring.{variable, constant, ◌⊖◌, ◌⊗◌, ring}
use Rattle.algebra.proofs.Rounding.{nearestℤ-half}
use Rattle.algebra.proofs.SumTo.{sum_to-*ℤ, sum_to--ℤ, sum_to-nat_abs-le}
use Rattle.sine.specs.ExactSine.{exact_sine, exact_cosine, denominator}
use Rattle.sine.specs.Wave.{table_sine, table_cosine, full_scale, WithinHalfUnit}
use Rattle.sine.proofs.ExactSine.{denominator-pos}
use Rattle.sine.proofs.Wave.{table_sine-near, table_cosine-near}
use Rattle.windows.specs.Window.{window_length, largest_sample, out_of_range}
use Rattle.spectral_lines.specs.Line.{sum_scale, line_sum, rounded_sum}
use Rattle.spectral_lines.specs.Exact.{exact_sum, WithinThreeQuarters}
use Rattle.spectral_lines.proofs.Bounds.{summand}
use Rattle.windows.proofs.Samples.{sample-le}

-- a common factor of two products
common-factor : (s f e d t : ℤ) → f *ℤ (s *ℤ e) -ℤ d *ℤ (s *ℤ t) ≡ s *ℤ (f *ℤ e -ℤ d *ℤ t)
common-factor s f e d t =
    let s' = variable 0 in let f' = variable 1 in let e' = variable 2 in let d' = variable 3 in let t' = variable 4 in
    ring (f' ⊗ (s' ⊗ e') ⊖ d' ⊗ (s' ⊗ t')) (s' ⊗ (f' ⊗ e' ⊖ d' ⊗ t')) tt (s ∷ f ∷ e ∷ d ∷ t ∷ [])

-- the difference of two scaled sums, summand by summand
scaled-difference : (n : ℕ) (a b : ℤ) (f g : ℕ → ℤ) → a *ℤ sum_to n f -ℤ b *ℤ sum_to n g ≡ sum_to n (λ j. a *ℤ f j -ℤ b *ℤ g j)
scaled-difference n a b f g =
    ap₂ ◌-ℤ◌ (sym (sum_to-*ℤ n a f)) (sym (sum_to-*ℤ n b g)) ∙ sym (sum_to--ℤ n (λ j. a *ℤ f j) (λ j. b *ℤ g j))

-- the distance of the rounded sum r of t from twice the exact sum e, times the table's scale f, as the rounding's part and the table's part
two-parts : (f d r e t : ℤ) → f *ℤ (d *ℤ r -ℤ pos 2 *ℤ e) ≡ d *ℤ (f *ℤ r -ℤ pos 2 *ℤ t) -ℤ pos 2 *ℤ (f *ℤ e -ℤ d *ℤ t)
two-parts f d r e t =
    let f' = variable 0 in let d' = variable 1 in let r' = variable 2 in let e' = variable 3 in let t' = variable 4 in
    let two = constant (pos 2) in
    ring (f' ⊗ (d' ⊗ r' ⊖ two ⊗ e')) (d' ⊗ (f' ⊗ r' ⊖ two ⊗ t') ⊖ two ⊗ (f' ⊗ e' ⊖ d' ⊗ t')) tt
    (f ∷ d ∷ r ∷ e ∷ t ∷ [])

three_quarters :
    (d : ℕ) (r e t : ℤ) →
    nat_abs (pos full_scale *ℤ r -ℤ pos 2 *ℤ t) ≤ sum_scale →
    2 * nat_abs (pos full_scale *ℤ e -ℤ pos d *ℤ t) ≤ window_length * (largest_sample * d) →
    4 * nat_abs (pos d *ℤ r -ℤ pos 2 *ℤ e) ≤ 3 * d
three_quarters d r e t rounding table =
    let f = pos full_scale in
    let a = f *ℤ r -ℤ pos 2 *ℤ t in
    let b = f *ℤ e -ℤ pos d *ℤ t in
    omega (
      arith,
      nat_abs-*ℤ f (pos d *ℤ r -ℤ pos 2 *ℤ e),
      ap nat_abs (two-parts f (pos d) r e t),
      nat_abs-+ℤ-le (pos d *ℤ a) (neg_ℤ (pos 2 *ℤ b)),
      nat_abs-*ℤ (pos d) a,
      nat_abs-negℤ (pos 2 *ℤ b),
      nat_abs-*ℤ (pos 2) b,
      mul-le-mul_left d rounding,
    )

module _ (window : List ℤ) (in-range : list_any out_of_range window ≡ false) where
  module _ (exact table : ℕ → ℤ) (near : (i : ℕ) → WithinHalfUnit (exact i) (table i)) where
    -- the table's part of the distance, in one summand
    summand-near :
        (k j : ℕ) →
        nat_abs (pos full_scale *ℤ summand exact window k j -ℤ pos denominator *ℤ summand table window k j) ≤ largest_sample * denominator / 2
    summand-near k j =
        let s = get_or window j (pos 0) in
        let i = j * k in
        rw (common-factor s (pos full_scale) (exact i) (pos denominator) (table i), nat_abs-*ℤ)
        (omega (arith, mul-le-mul (sample-le window in-range j) (near i)))

    -- and in the whole sum
    line_sum-near :
        (k : ℕ) →
        2 * nat_abs (pos full_scale *ℤ line_sum exact window k -ℤ pos denominator *ℤ line_sum table window k) ≤ window_length * (largest_sample * denominator)
    unfolding line_sum
    line_sum-near k =
        let e = summand exact window k in
        let t = summand table window k in
        rw (scaled-difference window_length (pos full_scale) (pos denominator) e t)
        (omega (
          arith,
          sum_to-nat_abs-le window_length (largest_sample * denominator / 2) (λ j. pos full_scale *ℤ e j -ℤ pos denominator *ℤ t j) (λ j l. summand-near k j),
        ))

    pub rounded_sum-near : (k : ℕ) → WithinThreeQuarters (exact_sum exact window k) (rounded_sum table window k)
    unfolding exact_sum rounded_sum
    rounded_sum-near k =
        three_quarters denominator (rounded_sum table window k) (line_sum exact window k) (line_sum table window k)
        (nearestℤ-half (line_sum table window k) sum_scale (omega arith))
        (line_sum-near k)

  pub cosine-sum-near : (k : ℕ) → WithinThreeQuarters (exact_sum exact_cosine window k) (rounded_sum table_cosine window k)
  cosine-sum-near = rounded_sum-near exact_cosine table_cosine table_cosine-near

  pub sine-sum-near : (k : ℕ) → WithinThreeQuarters (exact_sum exact_sine window k) (rounded_sum table_sine window k)
  sine-sum-near = rounded_sum-near exact_sine table_sine table_sine-near

-- a sum that is one off is farther away
one-off-not-near : WithinThreeQuarters (pos 0) (pos 1) → ⊥
one-off-not-near h = omega (arith, denominator-pos)
