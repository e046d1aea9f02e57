-- Newton's iteration for the whole part of a square root: what one step keeps of a candidate r for the root of n, what the first candidate is, and that the last one is the root.
use mathlib.Core.Path.{◌≡◌, refl, sym, subst}
use Prim.Native.Nat.{ℕ, ◌+◌, ◌*◌, ◌/◌, ◌%◌, ◌^◌, ◌≤◌, ◌<◌}
use native.Mathlib.Nat.{mul-le-mul, mul-le-mul_left, mul-le-mul_right, lt-mul-div-succ, le-div_iff_mul-le, mod-eq_of_lt}
use native.Mathlib.Decide.{dec_le}
use native.Mathlib.Omega.{arith}
use lib.Count.{count_leading_zeros, leading_length}
use lib.Pow.{pow_pos, pow_mono, pow-add}
use Rattle.algebra.specs.Largest.{largest}
use Rattle.algebra.proofs.Weighted.{double-product-le}
use Rattle.square_root.specs.Root.{root_of}
use Rattle.square_root.proofs.RootLaws.{Root, root-unique, lt-root_limit}

-- A candidate for the root of n: above 0, not below the root, and at most 2^32.
pub record Candidate (n r : ℕ) : Type 0 where
  pub above_zero : 0 < r
  pub not-below : n < (r + 1) * (r + 1)
  pub bounded : r ≤ 2 ^ 32

-- s is the mean of r and q = n / r, rounded down. With k = s + 1: n < r(q + 1) and r + q + 1 ≤ 2k, so n + r² < 2rk ≤ r² + k².
step-not-below : (n r q s : ℕ) → n < r * (q + 1) → r + q < 2 * s + 2 → n < (s + 1) * (s + 1)
step-not-below n r q s next mean =
    let twice : r + q + 1 ≤ 2 * (s + 1) = omega arith in
    omega (arith, mul-le-mul_left r twice, double-product-le r (s + 1))

step-above-zero : (n r q s : ℕ) → 0 < n → q < r → n < r * (q + 1) → r + q < 2 * s + 2 → 0 < s
step-above-zero n r q s pos above next mean = either (dec_le 2 r)
  where
    either : Dec (2 ≤ r) → 0 < s
    either (yes h) = omega arith
    either (no f) =
        let small : r ≤ 1 = omega arith in
        let least : r * (q + 1) ≤ 1 * (q + 1) = mul-le-mul_right (q + 1) small in
        absurd (omega arith)

-- one step from a candidate r that is above the root, to the mean of r and n / r rounded down
pub step-candidate : (n r s : ℕ) → 0 < n → Candidate n r → n / r < r → 2 * s ≤ r + n / r → r + n / r < 2 * s + 2 → Candidate n s
step-candidate n r s pos candidate above low high =
    let bound : r ≤ 2 ^ 32 = candidate.bounded in
    let next : n < r * (n / r + 1) = lt-mul-div-succ n candidate.above_zero in
    record {
      above_zero = step-above-zero n r (n / r) s pos above next high;
      not-below = step-not-below n r (n / r) s next high;
      bounded = omega arith;
    }

-- a candidate that is not above the root is the root
pub last-candidate : (n r : ℕ) → Candidate n r → r ≤ n / r → Root n r
last-candidate n r candidate le = ((le-div_iff_mul-le candidate.above_zero).0 le, candidate.not-below)

-- the root of a u64 fits 32 bits
pub root-lt : (n r : ℕ) → n < 2 ^ 64 → Root n r → r < 2 ^ 32
root-lt n r small root = either (dec_le (2 ^ 32) r)
  where
    either : Dec (2 ^ 32 ≤ r) → r < 2 ^ 32
    either (yes h) = let least : r * r ≤ n = root.0 in absurd (omega (arith, mul-le-mul h h))
    either (no f) = omega arith

-- 2^s, as the code shifts, for an s of at least half of n's binary digits
pub first-candidate : (n s : ℕ) → n < 2 ^ 64 → 64 ≤ count_leading_zeros 64 n + (s + s) → s ≤ 32 → Candidate n (1 * 2 ^ s % 2 ^ 64)
first-candidate n s small half most =
    let digits = leading_length 64 n small in
    let bound : 2 ^ s ≤ 2 ^ 32 = pow_mono most in
    let power : 2 ^ digits.0 ≤ 2 ^ (s + s) = pow_mono (omega (arith, digits.1)) in
    let square : n < 2 ^ s * 2 ^ s = subst (λ (p : ℕ). n < p) (pow-add 2 s s) (omega (arith, digits.2)) in
    subst (Candidate n) (sym (mod-eq_of_lt (omega arith)))
    (subst (Candidate n) (omega arith) record { above_zero = pow_pos s; not-below = omega arith; bounded = bound })

pub last-is-root : (n r : ℕ) → n < 2 ^ 64 → Candidate n r → r ≤ n / r → r ≡ root_of n
last-is-root n r small candidate le = root-unique n r (lt-root_limit n small) (last-candidate n r candidate le)

pub root-of-zero : root_of 0 ≡ 0
unfolding root_of largest
root-of-zero = refl

-- what `root` rests on
pub ruleset newton = (first-candidate, step-candidate, last-is-root, root-of-zero)
