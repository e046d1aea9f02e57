-- The norm bound: a vector of whole numbers that is near an exact one has nearly the same norm, the root of the
-- weighted sum of squares. With P a bound on the norm of the differences and R the whole part of the root, the exact norm is within
-- P + 1 of R. All is stated over squares and whole numbers: the exact norm need not be a fraction.
-- It holds for any weights, any vectors, any denominator and any divisor c of the sum.
use mathlib.Core.Path.{◌≡◌}
use mathlib.Core.List.{List, [], ◌∷◌}
use Prim.Native.Nat.{ℕ, ◌+◌, ◌*◌, ◌-◌, ◌≤◌, ◌<◌}
use native.Mathlib.Nat.{le_trans, le_of_lt, lt_of_lt_of_le, not-le_of_lt, mul-le-mul, mul-le-mul_left, mul-le-mul_right, mul-lt-mul_of_pos_left, mul-pos, le_of_mul-le-mul_left}
use native.Mathlib.Omega.{arith, by_contra, sub_cases}
use lib.Dec.{lit<, lit≤}
use lib.IntN.{ℤ, pos, negsuc, nat_abs, ◌*ℤ◌}
use Rattle.algebra.specs.Weighted.{sum_over, weighted_squares, Place, squares, exact_squares, difference, DifferencesWithin, NearVector, RootOver, WithinUnits}
use Rattle.algebra.proofs.Integer.{nat_abs--ℤ-comm, nat_abs-le-distance}
use Rattle.algebra.proofs.Weighted.{triangle-lt, squares-of-multiple, squares-le-weights}

-- the value over the denominator D of the exact numbers
abbrev scaled : ℕ → Place → ℤ
scaled D p = pos D *ℤ p.value

module _ {places : List Place} {D c P : ℕ} (v : DifferencesWithin places D c P) where
  scaled-squares : weighted_squares (λ p. p.weight) (scaled D) places ≡ D * D * squares places
  scaled-squares = squares-of-multiple (λ p. p.weight) (pos D) (λ p. p.value) places

  -- The exact sum of squares from above: if S / c is below the square of t, then E / D² / c is below the square of t + P.
  pub exact-squares-lt : (t : ℕ) → squares places < c * (t * t) → exact_squares places < c * ((t + P) * (t + P)) * (D * D)
  exact-squares-lt t h = lt_of_lt_of_le (triangle-lt (λ p. p.weight) (λ p. p.exact) (scaled D) (difference D) exact-le places c (t * D) (P * D) below v.spread) (omega arith)
    where
      exact-le : (p : Place) → nat_abs p.exact ≤ nat_abs (scaled D p) + nat_abs (difference D p)
      exact-le p = omega (arith, nat_abs-le-distance p.exact (scaled D p), nat_abs--ℤ-comm p.exact (scaled D p))

      below : weighted_squares (λ p. p.weight) (scaled D) places < c * (t * D * (t * D))
      below = omega (arith, scaled-squares, mul-lt-mul_of_pos_left h (mul-pos v.exact-denominator-pos v.exact-denominator-pos))

  -- From below: if S / c is at least the square of t + P, then E / D² / c is at least the square of t.
  exact-squares-ge : (t : ℕ) → c * ((t + P) * (t + P)) ≤ squares places → c * (t * t) * (D * D) ≤ exact_squares places
  exact-squares-ge t h = by_contra (c * (t * t) * (D * D)) (exact_squares places) (λ l. omega (arith, scaled-squares, mul-le-mul_left (D * D) h, triangle-lt (λ p. p.weight) (scaled D) (λ p. p.exact) (difference D) scaled-le places c (t * D) (P * D) (omega arith) v.spread))
    where
      scaled-le : (p : Place) → nat_abs (scaled D p) ≤ nat_abs p.exact + nat_abs (difference D p)
      scaled-le p = nat_abs-le-distance (scaled D p) p.exact

  -- THE NORM BOUND, each side for every r. From below: if r² is at most S / c, then r less P, squared, is at most E / D² / c.
  pub norm-low : (r : ℕ) → c * (r * r) ≤ squares places → c * ((r - P) * (r - P)) * (D * D) ≤ exact_squares places
  norm-low r h = sub_cases r P (c * ((r - P) * (r - P)) * (D * D) ≤ exact_squares places)
      (λ l e. exact-squares-ge (r - P) (rw e h))
      (λ l e. rw e (omega arith))

  -- From above: if S / c is below (r + 1)², then E / D² / c is below r plus P + 1, squared.
  pub norm-high : (r : ℕ) → squares places < c * ((r + 1) * (r + 1)) → exact_squares places < c * ((r + (P + 1)) * (r + (P + 1))) * (D * D)
  norm-high r h = lt_of_lt_of_le (exact-squares-lt (r + 1) h) (omega arith)

  -- The two sides together: the exact norm is within P + 1 units of the whole part of the root.
  pub norm-within : (r : ℕ) → RootOver c (squares places) r → WithinUnits c (exact_squares places) D r (P + 1)
  norm-within r root = record {
    low = le_trans (mul-le-mul_right (D * D) (mul-le-mul_left c (mul-le-mul less less))) (norm-low r root.low);
    high = le_of_lt (norm-high r root.high);
  }
    where
      less : r - (P + 1) ≤ r - P
      less = omega arith

-- Values that are each near their exact number: the norm of the differences is at most P.
pub near-differences : {places : List Place} {D m n W c P : ℕ} → NearVector places D m n W c P → DifferencesWithin places D c P
near-differences {places} {D} {m} {n} {W} {c} {P} v =
    let by_weights = squares-le-weights (λ p. p.weight) (difference D) n (m * D) places v.near in
    record {
      exact-denominator-pos = v.exact-denominator-pos;
      spread = le_of_mul-le-mul_left {k = n * n} (omega (arith, by_weights, mul-le-mul_right (m * D * (m * D)) v.weights, mul-le-mul_right (D * D) v.spread)) (mul-pos v.distance-denominator-pos v.distance-denominator-pos);
    }

-- ---- the bound at numbers

-- The numbers of a group: a distance of 3/4 at each place, weights of the lines that total at most 24, and two places to a line. P is 6.
pub group-spread : 48 * (3 * 3) ≤ 1 * (6 * 6) * (4 * 4)
group-spread = lit≤ tt

-- two places of weight 24, with the values 100 and −100 for 403/4 and −403/4
worked_places : List Place
worked_places = record { weight = 24; value = pos 100; exact = pos 403 } ∷ record { weight = 24; value = negsuc 99; exact = negsuc 402 } ∷ []

-- all the hypotheses hold of them at once
worked-near : NearVector worked_places 4 3 4 48 1 6
unfolding worked_places sum_over
worked-near = record {
  exact-denominator-pos = lit< tt;
  distance-denominator-pos = lit< tt;
  near = (lit≤ tt, (lit≤ tt, tt));
  weights = lit≤ tt;
  spread = group-spread;
}

worked-root : RootOver 1 (squares worked_places) 692
unfolding worked_places sum_over
worked-root = record { low = lit≤ tt; high = lit< tt }

worked-within : WithinUnits 1 (exact_squares worked_places) 4 692 7
worked-within = norm-within (near-differences worked-near) 692 worked-root

-- 6 units are too few there, so P + 1 cannot be lowered to P
worked-not-within-six : ¬ WithinUnits 1 (exact_squares worked_places) 4 692 6
unfolding worked_places sum_over
worked-not-within-six h = not-le_of_lt (lit< tt) h.high
