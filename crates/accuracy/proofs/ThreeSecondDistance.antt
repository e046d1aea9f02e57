-- The distance of 8 units of a three-second value, by the triangle inequality over its 15 windows: no root is taken.
use mathlib.Core.Path.{◌≡◌, subst}
use mathlib.Core.List.{List, [], ◌∷◌, map}
use Prim.Native.Nat.{ℕ, suc, ◌+◌, ◌-◌, ◌*◌, ◌≤◌, ◌<◌}
use native.Mathlib.Nat.{mul-le-mul, mul-le-mul_left, mul-le-mul_right}
use native.Mathlib.Decide.{dec_le}
use native.Mathlib.Omega.{arith, by_contra}
use lib.IntN.{pos}
use lib.ListN.{length}
use Rattle.algebra.specs.Fraction.{Fraction, whole, square, divide, sumᶠ, ◌+ᶠ◌, ◌≤ᶠ◌}
use Rattle.algebra.specs.Weighted.{sum_over, Everywhere}
use Rattle.algebra.proofs.Fraction.{≤ᶠ-refl, +ᶠ-≤ᶠ, whole-add}
use Rattle.algebra.proofs.Weighted.{triangle-lt, sum_over-eq, everywhere-all}
use Rattle.accuracy.specs.Distance.{group_margin, WithinMargin}
use Rattle.accuracy.specs.LatestRows.{three_second_margin}

module _ {A : Type 0} where
  -- ---- sums of squares of whole numbers

  -- the squares of some numbers, added up
  abbrev squares_of : (A → ℕ) → List A → ℕ
  squares_of f places = sum_over (λ p. f p * f p) places

  -- each with weight 1
  weighted-once : (f : A → ℕ) (places : List A) → sum_over (λ p. 1 * (f p * f p)) places ≡ squares_of f places
  weighted-once f places = sum_over-eq _ _ places (everywhere-all _ (λ p. omega arith) places)

  -- the same number at each place
  squares-of-same : (m : ℕ) (places : List A) → squares_of (λ p. m) places ≡ length places * (m * m)
  unfolding sum_over
  squares-of-same m [] = omega arith
  squares-of-same m (p ∷ places) = omega (arith, squares-of-same m places)

  -- numbers that are at most m above others: where the squares of these add up to less
  -- than n × r², those of the first add up to less than n × (r + m)²
  squares-shifted :
      (high low : A → ℕ) (m : ℕ) → ((p : A) → high p ≤ low p + m) → (places : List A) (r : ℕ) →
      squares_of low places < length places * (r * r) →
      squares_of high places < length places * ((r + m) * (r + m))
  squares-shifted high low m close places r below =
      rw (weighted-once high places) at
      (triangle-lt (λ p. 1) (λ p. pos (high p)) (λ p. pos (low p)) (λ p. pos m) close places (length places) r m
      (rw (weighted-once low places) below)
      (rw (weighted-once (λ p. m) places, squares-of-same m places) (omega arith)))

  module _ (value : A → ℕ) (exact : A → Fraction) where
    lows : A → ℕ
    lows p = value p - group_margin

    highs : A → ℕ
    highs p = value p + group_margin

    -- t is the whole part of the root of the mean of the squares: t less 8, and plus 8
    squares-low :
        (places : List A) (t : ℕ) → length places * (t * t) ≤ squares_of value places →
        length places * ((t - three_second_margin) * (t - three_second_margin)) ≤ squares_of lows places
    unfolding lows
    squares-low places t h = by_size (dec_le three_second_margin t)
      where
        by_size : Dec (three_second_margin ≤ t) → length places * ((t - three_second_margin) * (t - three_second_margin)) ≤ squares_of lows places
        by_size (yes large) =
            let less = t - three_second_margin in
            let le : less + group_margin ≤ t = omega arith in
            by_contra (length places * (less * less)) (squares_of lows places) λ l.
            omega (
              arith,
              h,
              squares-shifted value lows group_margin (λ p. omega arith) places less l,
              mul-le-mul_left (length places) (mul-le-mul le le),
            )
        by_size (no small) =
            let none : t - three_second_margin ≡ 0 = omega arith in
            rw none (omega arith)

    squares-high :
        (places : List A) (t : ℕ) → squares_of value places < length places * (suc t * suc t) →
        squares_of highs places ≤ length places * ((t + three_second_margin) * (t + three_second_margin))
    unfolding highs
    squares-high places t h =
        omega (arith, squares-shifted highs value group_margin (λ p. omega arith) places (suc t) h)

    -- ---- the exact squares

    -- their sum lies between those of the values less the margin and plus it
    sum_low :
        (places : List A) → Everywhere (λ p. WithinMargin group_margin (value p) (exact p)) places →
        whole (squares_of lows places) ≤ᶠ sumᶠ (map exact places)
    unfolding lows sum_over sumᶠ whole square
    sum_low [] near = ≤ᶠ-refl (whole 0)
    sum_low (p ∷ places) near =
        subst (λ (low : Fraction). low ≤ᶠ exact p +ᶠ sumᶠ (map exact places))
        (whole-add (lows p * lows p) (squares_of lows places))
        (+ᶠ-≤ᶠ (whole (lows p * lows p)) (exact p) _ _ near.0.not-far-below (sum_low places near.1))

    sum-high :
        (places : List A) → Everywhere (λ p. WithinMargin group_margin (value p) (exact p)) places →
        sumᶠ (map exact places) ≤ᶠ whole (squares_of highs places)
    unfolding highs sum_over sumᶠ whole square
    sum-high [] near = ≤ᶠ-refl (whole 0)
    sum-high (p ∷ places) near =
        subst (λ (high : Fraction). exact p +ᶠ sumᶠ (map exact places) ≤ᶠ high)
        (whole-add (highs p * highs p) (squares_of highs places))
        (+ᶠ-≤ᶠ (exact p) (whole (highs p * highs p)) _ _ near.0.not-far-above (sum-high places near.1))

    -- the whole part of the root of their mean is within 8 of the root of the exact mean
    pub mean-near :
        (places : List A) (n : ℕ) (some : 0 < n) (t : ℕ) →
        length places ≡ n →
        Everywhere (λ p. WithinMargin group_margin (value p) (exact p)) places →
        n * (t * t) ≤ squares_of value places →
        squares_of value places < n * (suc t * suc t) →
        WithinMargin three_second_margin t (divide (sumᶠ (map exact places)) n some)
    unfolding whole square divide
    mean-near places n some t count near low high =
        let sum = sumᶠ (map exact places) in
        let below = rw count at (squares-low places t (rw count low)) in
        let above = rw count at (squares-high places t (rw count high)) in
        record {
          not-far-below = omega (arith, sum_low places near, mul-le-mul_right sum.den below);
          not-far-above = omega (arith, sum-high places near, mul-le-mul_right sum.den above);
        }
