-- Signed numbers of 64 bits by their sign and magnitude: what the casts, the minus and the test for a number below 0 come to in the code.
use mathlib.Core.Bool.{Bool, true, false, true≢false}
use mathlib.Core.Path.{◌≡◌, refl, ap}
use Prim.Native.Nat.{ℕ, zero, suc, ◌+◌, ◌^◌, ◌≤◌, ◌<◌}
use native.Mathlib.Nat.{not-suc-le-zero}
use native.Mathlib.Omega.{arith}
use borrow.Author.Tests.{lt-ltb, le-ltb, ltb-true}
use lib.IntN.{ℤ, pos, negsuc, neg_ℤ, nat_abs, ◌-ℤ◌, +ℤ_idl}
use lib.Signed.{mag, lt_z, nat_abs-le}
use mir.Syntax.{w64}
use mir.Facts.{to_z-of_z}
use mir.Val.{SFits, to_z, of_z}

-- a magnitude below 2^63 is the number that its bits are read as
pub to_z_pos : (n : ℕ) → n < 2 ^ 63 → to_z w64 n ≡ pos n
to_z_pos n h = rw (lt-ltb n (2 ^ 63) h)

-- and it can be taken from 0
pub sub-eq-neg : (n : ℕ) → n < 2 ^ 63 → pos 0 -ℤ to_z w64 n ≡ neg_ℤ (pos n)
sub-eq-neg n h = rw (to_z_pos n h) (+ℤ_idl (neg_ℤ (pos n)))

pub neg-fits : (n : ℕ) → n < 2 ^ 63 → SFits w64 (neg_ℤ (pos n))
neg-fits zero h = record { sfits = omega arith }
neg-fits (suc n) h = record { sfits = omega arith }

-- a number below 0 taken from −1
pub minus-one-sub : (z : ℤ) → lt_z z (pos 0) ≡ true → negsuc 0 -ℤ z ≡ pos (mag z)
minus-one-sub (pos n) h = absurd (not-suc-le-zero (ltb-true n 0 h))
minus-one-sub (negsuc n) h = rw (le-ltb (suc n) 1 (omega arith)) (ap pos (omega arith))

pub abs-of-negative : (z : ℤ) → lt_z z (pos 0) ≡ true → mag z + 1 ≡ nat_abs z
abs-of-negative (pos n) h = absurd (not-suc-le-zero (ltb-true n 0 h))
abs-of-negative (negsuc n) h = omega arith

pub abs-of-positive : (z : ℤ) → lt_z z (pos 0) ≡ false → z ≡ pos (nat_abs z)
abs-of-positive (pos n) h = refl
abs-of-positive (negsuc n) h = absurd (true≢false h)

pub abs-le : {z : ℤ} → SFits w64 z → nat_abs z ≤ 2 ^ 63
abs-le {z} h = nat_abs-le z h.sfits

-- the code's test for a number below 0
pub below-zero : {z : ℤ} (b : Bool) → SFits w64 z → lt_z (to_z w64 (of_z w64 z)) (pos 0) ≡ b → lt_z z (pos 0) ≡ b
below-zero b h test = rw (to_z-of_z h) at test
