-- The limits in units that the code holds: they are equal to the rule's, and their parts fit 64 bits for every K.
use mathlib.Core.Path.{◌≡◌}
use mathlib.Core.Bool.{true}
use Prim.Native.Nat.{ℕ, ◌*◌, ◌^◌, ◌≤◌}
use native.Mathlib.Nat.{mul-le-mul, mul-le-mul_left}
use native.Mathlib.Omega.{arith}
use mir.Syntax.{w32}
use mir.Val.{Fits}
use Rattle.algebra.specs.Fraction.{Fraction, times, divide, ◌≈ᶠ◌}
use Rattle.algebra.proofs.Fraction.{≈ᶠ-times, ≈ᶠ-divide}
use Rattle.fractions.specs.declared.Ratio.{Ratio}
use Rattle.fractions.specs.Parts.{parts}
use Rattle.fractions.proofs.Parts.{Same, parts_same}
use Rattle.classes.specs.declared.Class.{Class}
use Rattle.limits.specs.Limit.{has_limit, three_halves, limit_of, limit_or_zero}
use Rattle.limits.proofs.Limits.{largest_numerator, largest_denominator, limit_or_zero-le, listed_limit-equal}
use Rattle.limit_tests.specs.Limit.{milliamperes, in_units, limit_in_units, peak_limit_in_units, listed_in_units, listed_peak_in_units}

in_units-≈ᶠ : (scale : ℕ) (p q : Fraction) → p ≈ᶠ q → in_units scale p ≈ᶠ in_units scale q
in_units-≈ᶠ scale p q equal = ≈ᶠ-divide (times scale p) (times scale q) milliamperes _ (≈ᶠ-times scale p q equal)

three_halves-≈ᶠ : (p q : Fraction) → p ≈ᶠ q → three_halves p ≈ᶠ three_halves q
three_halves-≈ᶠ p q equal = ≈ᶠ-divide (times 3 p) (times 3 q) 2 _ (≈ᶠ-times 3 p q equal)

module _ (class : Class) (order scale : ℕ) where
  module _ (has-limit : has_limit order ≡ true) where
    listed-equal : listed_in_units class order scale ≈ᶠ in_units scale (limit_of class order)
    listed-equal =
        let equal : limit_or_zero class order ≈ᶠ limit_of class order = rw has-limit (listed_limit-equal class order) in
        in_units-≈ᶠ scale (limit_or_zero class order) (limit_of class order) equal

    pub listed_in_units-same : Same (parts (listed_in_units class order scale)) (parts (limit_in_units class order scale))
    unfolding limit_in_units
    listed_in_units-same = parts_same (listed_in_units class order scale) (in_units scale (limit_of class order)) listed-equal

    pub listed_peak_in_units-same : Same (parts (listed_peak_in_units class order scale)) (parts (peak_limit_in_units class order scale))
    unfolding limit_in_units peak_limit_in_units
    listed_peak_in_units-same =
        let limit = in_units scale (limit_of class order) in
        parts_same (listed_peak_in_units class order scale) (three_halves limit)
        (three_halves-≈ᶠ (listed_in_units class order scale) limit listed-equal)

  -- the parts are small enough for 64 bits, and so are three times and twice as much
  pub listed_in_units-le :
      Fits w32 scale →
      ((listed_in_units class order scale).num ≤ 2 ^ 32 * largest_numerator)
      × ((listed_in_units class order scale).den ≤ milliamperes * largest_denominator)
  unfolding times divide
  listed_in_units-le fits =
      let scale-le : scale ≤ 2 ^ 32 = omega arith in
      let limit-le = limit_or_zero-le class order in
      (mul-le-mul scale-le limit-le.0, mul-le-mul_left milliamperes limit-le.1)

-- the parts of a limit in milliamperes that the code holds
pub held_le :
    (class : Class) (order : ℕ) (limit : Ratio) → limit ≡ parts (limit_or_zero class order) →
    (limit.numerator ≤ largest_numerator) × (limit.denominator ≤ largest_denominator)
held_le class order limit e = rw e (limit_or_zero-le class order)

-- and in units
pub held_in_units_le :
    (class : Class) (order scale : ℕ) (limit : Ratio) → limit ≡ parts (listed_in_units class order scale) → Fits w32 scale →
    (limit.numerator ≤ 2 ^ 32 * largest_numerator) × (limit.denominator ≤ milliamperes * largest_denominator)
held_in_units_le class order scale limit e fits = rw e (listed_in_units-le class order scale fits)
