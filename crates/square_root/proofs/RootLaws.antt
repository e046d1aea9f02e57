-- The law of `root_of`: below `root_limit` it is the one number whose square is at most n while the next square is above n; it grows with n.
use mathlib.Core.Path.{◌≡◌, refl}
use Prim.Native.Nat.{ℕ, ◌+◌, ◌-◌, ◌*◌, ◌^◌, ◌≤◌, ◌<◌}
use native.Mathlib.Nat.{le-suc, le_trans, lt_of_le_of_lt, mul-le-mul}
use native.Mathlib.Numerals.{add-one}
use native.Mathlib.Decide.{dec_le}
use native.Mathlib.Omega.{arith}
use lib.Dec.{lit≤}
use Rattle.algebra.specs.Largest.{largest}
use Rattle.square_root.specs.Root.{root_of, root_digits, root_limit}
use Rattle.algebra.proofs.Largest.{Bounded, largest-le, largest-suc-gt, largest-eq}

-- r is the whole part of the square root of n
abbrev pub Root : ℕ → ℕ → Type 0
Root n r = (r * r ≤ n) × (n < (r + 1) * (r + 1))

-- both sides of a square, and the largest u64
pub root-below-square : root_of 24 ≡ 4
unfolding root_of largest
root-below-square = refl

pub root-of-square : root_of 25 ≡ 5
unfolding root_of largest
root-of-square = refl

pub root-of-largest : root_of (2 ^ 64 - 1) ≡ 2 ^ 32 - 1
unfolding root_of largest
root-of-largest = refl

-- `root_of` is the largest r whose square is at most n
squares-bounded : (n : ℕ) → n < root_limit → Bounded (λ r. r * r) n root_digits
squares-bounded n small =
    record { at_zero = omega arith; rising = λ t. mul-le-mul (le-suc t) (le-suc t); beyond = small }

pub root-law : (n : ℕ) → n < root_limit → Root n (root_of n)
unfolding root_of
root-law n small =
    let bounded = squares-bounded n small in
    (largest-le _ n root_digits bounded, rw (add-one (root_of n)) (largest-suc-gt _ n root_digits bounded))

pub root-unique : (n r : ℕ) → n < root_limit → Root n r → r ≡ root_of n
unfolding root_of
root-unique n r small root =
    largest-eq _ n root_digits (squares-bounded n small) root.0 (rw (add-one r) at root.1)

-- every u64 is small enough
pub lt-root_limit : (n : ℕ) → n < 2 ^ 64 → n < root_limit
lt-root_limit n small = le_trans small (lit≤ tt)

pub root-le-of-le : (m n : ℕ) → m ≤ n → n < root_limit → root_of m ≤ root_of n
root-le-of-le m n le small = ordered (root_of m) (root_of n) (root-law m (lt_of_le_of_lt le small)).0 (root-law n small).1
  where
    ordered : (r s : ℕ) → r * r ≤ m → n < (s + 1) * (s + 1) → r ≤ s
    ordered r s lower upper = either (dec_le r s)
      where
        either : Dec (r ≤ s) → r ≤ s
        either (yes h) = h
        either (no f) = let next : s + 1 ≤ r = omega arith in omega (arith, mul-le-mul next next)
