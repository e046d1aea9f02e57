-- A whole sum that is added up product by product, as the machine reads it from its bits.
use mathlib.Core.Path.{◌≡◌, ap₂, ◌∙◌}
use Prim.Native.Nat.{ℕ, ◌+◌, ◌^◌, ◌≤◌, ◌<◌}
use native.Mathlib.Numerals.{add-one}
use native.Mathlib.Omega.{arith}
use lib.IntN.{ℤ, nat_abs, ◌+ℤ◌, ◌*ℤ◌}
use mir.Syntax.{Width, w32, w64}
use mir.Val.{SFits, to_z, of_z}
use mir.ValLaws.{to_z-of_z}
use Rattle.algebra.specs.Sums.{sum_to}
use Rattle.algebra.proofs.Signed.{sfits-nat_abs, sum-with-product}

-- a number of a signed width, read from its bits
abbrev pub read : Width → ℤ → ℤ
read w z = to_z w (of_z w z)

-- a sum with a product of two numbers of 32 bits is what it should be, and 64 bits hold it
pub record Added (sum product is-sum : ℤ) : Type 0 where
  pub fits : SFits w64 (sum +ℤ read w64 product)
  pub is : read w64 (sum +ℤ read w64 product) ≡ is-sum

pub added :
    (s a b sum product number factor : ℤ) →
    nat_abs s < 2 ^ 62 →
    nat_abs a ≤ 2 ^ 30 →
    nat_abs b ≤ 2 ^ 30 →
    sum ≡ s →
    number ≡ a →
    factor ≡ b →
    product ≡ read w32 number *ℤ read w32 factor →
    Added sum product (s +ℤ a *ℤ b)
added s a b sum product number factor small a_le b_le sum_is number_is factor_is product-is =
    let a_fits : SFits w32 a = sfits-nat_abs w32 a (omega (arith, a_le)) in
    let b_fits : SFits w32 b = sfits-nat_abs w32 b (omega (arith, b_le)) in
    let read_is : product ≡ a *ℤ b = product-is ∙ rw (number_is, factor_is) (ap₂ ◌*ℤ◌ (to_z-of_z w32 a a_fits) (to_z-of_z w32 b b_fits)) in
    let next = sum-with-product sum product s a b a_fits b_fits small sum_is read_is in
    record { fits = next.fits; is = to_z-of_z w64 _ next.fits ∙ next.is }

-- so a loop adds the summand at i
pub next-sum :
    (f wave : ℕ → ℤ) (i : ℕ) (sum product number factor : ℤ) →
    nat_abs (sum_to i (λ j. f j *ℤ wave j)) < 2 ^ 62 →
    nat_abs (f i) ≤ 2 ^ 30 →
    nat_abs (wave i) ≤ 2 ^ 30 →
    sum ≡ sum_to i (λ j. f j *ℤ wave j) →
    number ≡ f i →
    factor ≡ wave i →
    product ≡ read w32 number *ℤ read w32 factor →
    Added sum product (sum_to (i + 1) (λ j. f j *ℤ wave j))
unfolding sum_to
next-sum f wave i sum product number factor small f_le wave-le sum_is number_is factor_is product-is =
    rw add-one (added (sum_to i (λ j. f j *ℤ wave j)) (f i) (wave i) sum product number factor small f_le wave-le sum_is number_is factor_is product-is)
