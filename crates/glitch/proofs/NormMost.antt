-- The bound of a group's norm, and that it is enough for the largest weights.
use Prim.Native.Nat.{ℕ, zero, suc, ◌+◌, ◌*◌, ◌≤◌}
use native.Mathlib.Omega.{arith}
use Rattle.algebra.proofs.Weighted.{double-product-le}
use Rattle.kinds.specs.Kinds.{largest_total}

-- a bound on how far the sums of a group move, as a norm over its weights, of which one line may have all
abbrev pub norm_most : ℕ → ℕ
norm_most d = 10 * d + 7

pub norm_most-enough : (d : ℕ) → largest_total * (4001 * (d * d) + 6001 * d + 2000) ≤ 1000 * (norm_most d * norm_most d)
norm_most-enough d = omega (arith, le-square d, double-product-le d 1)
  where
    le-square : (d : ℕ) → d ≤ d * d
    le-square zero = omega arith
    le-square (suc d) = omega arith
