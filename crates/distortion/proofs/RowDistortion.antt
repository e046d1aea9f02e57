-- Laws of group distortion: that it is the largest whole t of document 01 and is below 2^45, and that the largest t with
-- t² × r² ≤ x is the root of x divided by r.
use mathlib.Core.Path.{◌≡◌}
use mathlib.Core.List.{List}
use Prim.Native.Nat.{ℕ, suc, ◌+◌, ◌*◌, ◌/◌, ◌^◌, ◌≤◌, ◌<◌}
use native.Mathlib.Nat.{lt_of_lt_of_le, lt_of_le_of_lt, mul-le-mul, mul-le-mul_left}
use native.Mathlib.Omega.{arith, by_contra}
use lib.Dec.{leb, lit≤}
use lib.ListN.{length, get_or, drop, length-drop}
use lib.Seq.{get_or-drop}
use Rattle.algebra.specs.Largest.{largest}
use Rattle.algebra.proofs.Largest.{Bounded, largest-le, largest-ge, largest-eq}
use Rattle.square_root.specs.Root.{root_of, root_limit}
use Rattle.limbs.specs.Limbs.{value_of, limbs_of}
use Rattle.limbs.proofs.Limbs.{value_of-limbs_of-lt}
use Rattle.wide_numbers.specs.WideNumbers.{wide_limbs}
use Rattle.wide_numbers.specs.Squares.{sum_of_squares}
use Rattle.wide_numbers.proofs.SumsOfSquares.{sum_of_squares-le, root-quotient-bounds}
use Rattle.rows.specs.Orders.{order_count}
use Rattle.distortion.specs.Distortion.{squared_thousand, distortion_digits, distortion_of}

-- the scaled sum of a row of 32-bit values, and that its root has 64 binary digits
scaled-sum-small : (values : List ℕ) → length values ≡ order_count → ((i : ℕ) → get_or values i 0 < 2 ^ 32)
    → squared_thousand * sum_of_squares (drop 1 values) < 2 ^ 90
scaled-sum-small values e h =
    omega (
      arith,
      length-drop 1 values,
      sum_of_squares-le (drop 1 values) (λ i. rw (get_or-drop 1 values i 0) (h (1 + i))),
    )

pub scaled-sum-lt : (values : List ℕ) → length values ≡ order_count → ((i : ℕ) → get_or values i 0 < 2 ^ 32)
    → squared_thousand * sum_of_squares (drop 1 values) < root_limit
scaled-sum-lt values e h = lt_of_lt_of_le (scaled-sum-small values e h) (lit≤ tt)

-- t² × r² as t grows, up to a number whose root has 64 binary digits
squares-bounded : (r x : ℕ) → 0 < r → x < root_limit → Bounded (λ t. t * t * (r * r)) x distortion_digits
squares-bounded r x pos small = record {
  at_zero = omega arith;
  rising = λ t. omega arith;
  beyond = lt_of_lt_of_le small (mul-le-mul_left (2 ^ 64 * 2 ^ 64) (mul-le-mul pos pos));
}

-- "t² × R1² at most 1,000,000 × the sum of the squares of R2..R40"
abbrev pub Passes : List ℕ → ℕ → Type 0
Passes values t = t * t * (get_or values 0 0 * get_or values 0 0) ≤ 1000000 * sum_of_squares (drop 1 values)

-- the distortion is the largest whole t that passes, for 40 values of 32 bits of which the first is not 0
module _ (values : List ℕ) (orders : length values ≡ 40) (fit : (i : ℕ) → get_or values i 0 < 2 ^ 32) (pos : 0 < get_or values 0 0) where
  bounded : Bounded (λ t. t * t * (get_or values 0 0 * get_or values 0 0)) (squared_thousand * sum_of_squares (drop 1 values)) distortion_digits
  bounded = squares-bounded _ _ pos (scaled-sum-lt values orders fit)

  pub distortion_of-passes : Passes values (distortion_of values)
  unfolding distortion_of
  distortion_of-passes = largest-le _ _ distortion_digits bounded

  pub distortion_of-greatest : (t : ℕ) → Passes values t → t ≤ distortion_of values
  unfolding distortion_of
  distortion_of-greatest t h = largest-ge _ _ distortion_digits bounded h

  pub distortion_of-lt : distortion_of values < 2 ^ 45
  distortion_of-lt =
      by_contra (suc (distortion_of values)) (2 ^ 45) λ h.
      let large : 2 ^ 45 ≤ distortion_of values = omega arith in
      omega (
        arith,
        mul-le-mul (mul-le-mul large large) (mul-le-mul pos pos),
        distortion_of-passes,
        scaled-sum-small values orders fit,
      )

-- the largest t with t² × r² at most x
pub root-quotient : (r x : ℕ) → 0 < r → x < root_limit → root_of x / r ≡ largest (λ t. leb (t * t * (r * r)) x) distortion_digits
root-quotient r x pos small =
    let bounds = root-quotient-bounds r x pos small in
    largest-eq (λ t. t * t * (r * r)) x distortion_digits (squares-bounded r x pos small) bounds.0 bounds.1

-- the distortion of a row of 32-bit values, as it is worked out over four limbs
pub distortion-quotient : (values : List ℕ) → length values ≡ order_count → ((i : ℕ) → get_or values i 0 < 2 ^ 32) → 0 < get_or values 0 0
    → root_of (value_of (limbs_of wide_limbs (squared_thousand * value_of (limbs_of wide_limbs (sum_of_squares (drop 1 values)))))) / get_or values 0 0 ≡ distortion_of values
unfolding distortion_of
distortion-quotient values e h pos =
    let sum = sum_of_squares (drop 1 values) in
    let le : sum ≤ squared_thousand * sum = omega arith in
    let small : squared_thousand * sum < root_limit = scaled-sum-lt values e h in
    rw (value_of-limbs_of-lt wide_limbs sum (lt_of_le_of_lt le small), value_of-limbs_of-lt wide_limbs (squared_thousand * sum) small)
    (root-quotient (get_or values 0 0) (squared_thousand * sum) pos small)
