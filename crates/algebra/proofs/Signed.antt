-- Signed numbers of a width by their absolute values: what fits, what a widened number is, a number without sign taken from 0, and a sum of products.
use mathlib.Core.Path.{◌≡◌, ap, ap₂, ◌∙◌}
use Prim.Native.Nat.{ℕ, ◌^◌, ◌≤◌, ◌<◌}
use native.Mathlib.Nat.{lt_of_le_of_lt, le_of_lt, mul-le-mul}
use native.Mathlib.Omega.{arith}
use lib.IntN.{ℤ, pos, negsuc, neg_ℤ, nat_abs, ◌+ℤ◌, ◌-ℤ◌, ◌*ℤ◌, +ℤ_idl}
use lib.Signed.{mag}
use mir.Syntax.{Width, w32, w64}
use mir.Val.{SFits, to_z, of_z, hbits}
use mir.ValLaws.{to_z-of_z}
use mir.Facts.{to_z_pos, sfits_widen}
use Rattle.algebra.proofs.Integer.{nat_abs-negℤ, nat_abs-*ℤ, nat_abs-+ℤ-le}

mag-le-nat_abs : (z : ℤ) → mag z ≤ nat_abs z
mag-le-nat_abs (pos n) = omega arith
mag-le-nat_abs (negsuc n) = omega arith

-- a number fits a signed width if its absolute value is below half the width's power
pub sfits-nat_abs : (w : Width) (z : ℤ) → nat_abs z < 2 ^ hbits w → SFits w z
sfits-nat_abs w z h = record { sfits = lt_of_le_of_lt (mag-le-nat_abs z) h }

-- the absolute value of a number of a signed width
pub nat_abs-sfits : (w : Width) (z : ℤ) → SFits w z → nat_abs z ≤ 2 ^ hbits w
nat_abs-sfits w (pos n) f = le_of_lt f.sfits
nat_abs-sfits w (negsuc n) f = f.sfits

-- a number that is known, and has that many bits, is read back from its bits as it was
pub read_as : (w : Width) (number known : ℤ) → number ≡ known → nat_abs known < 2 ^ hbits w → to_z w (of_z w number) ≡ known
read_as w number known same small = to_z-of_z w number (sfits-nat_abs w number (rw same small)) ∙ same

-- 32 bits widened to 64 are the same number
pub widened : (z : ℤ) → SFits w32 z → to_z w64 (of_z w64 (to_z w32 (of_z w32 z))) ≡ z
widened z f = ap (λ y. to_z w64 (of_z w64 y)) (to_z-of_z w32 z f) ∙ to_z-of_z w64 z (sfits_widen tt f)

-- 64 bits cut to 32 are the same number, where it has 32
pub cut_fits : (z : ℤ) → SFits w32 z → SFits w32 (to_z w64 (of_z w64 z))
cut_fits z f = rw (to_z-of_z w64 z (sfits_widen tt f)) f

pub cut : (z : ℤ) → SFits w32 z → to_z w32 (of_z w32 (to_z w64 (of_z w64 z))) ≡ z
cut z f = ap (λ y. to_z w32 (of_z w32 y)) (to_z-of_z w64 z (sfits_widen tt f)) ∙ to_z-of_z w32 z f

-- a number below half the width's power, taken from 0
pub negated : (w : Width) (n : ℕ) → n < 2 ^ hbits w → pos 0 -ℤ to_z w n ≡ neg_ℤ (pos n)
negated w n h = rw (to_z_pos w h) (+ℤ_idl (neg_ℤ (pos n)))

pub negated_fits : (w : Width) (n : ℕ) → n < 2 ^ hbits w → SFits w (neg_ℤ (pos n))
negated_fits w n h = sfits-nat_abs w (neg_ℤ (pos n)) (rw nat_abs-negℤ h)

-- ---- a sum of products of two numbers of 32 bits

product_le : (a b : ℤ) → SFits w32 a → SFits w32 b → nat_abs (a *ℤ b) ≤ 2 ^ 62
product_le a b f g = rw nat_abs-*ℤ (mul-le-mul (nat_abs-sfits w32 a f) (nat_abs-sfits w32 b g))

-- 64 bits hold a product
pub product-fits : (a b : ℤ) → SFits w32 a → SFits w32 b → SFits w64 (a *ℤ b)
product-fits a b f g = sfits-nat_abs w64 (a *ℤ b) (omega (arith, product_le a b f g))

-- and a sum below 2^62 with one product more, both as the machine reads them back from their bits
pub record SumWithProduct (sum product s a b : ℤ) : Type 0 where
  pub fits : SFits w64 (sum +ℤ to_z w64 (of_z w64 product))
  pub is : sum +ℤ to_z w64 (of_z w64 product) ≡ s +ℤ a *ℤ b

pub sum-with-product :
    (sum product s a b : ℤ) → SFits w32 a → SFits w32 b → nat_abs s < 2 ^ 62 →
    sum ≡ s → product ≡ a *ℤ b → SumWithProduct sum product s a b
sum-with-product sum product s a b f g small e p =
    let same = ap₂ ◌+ℤ◌ e (read_as w64 product (a *ℤ b) p (omega (arith, product_le a b f g))) in
    record {
      fits = rw same (sfits-nat_abs w64 (s +ℤ a *ℤ b) (omega (arith, nat_abs-+ℤ-le s (a *ℤ b), product_le a b f g)));
      is = same;
    }
