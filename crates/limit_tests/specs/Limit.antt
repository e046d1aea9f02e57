-- The limits of an order in units (document 01, "Class A verdicts"; document 02, card 1): the rule's, and the equal ones that the code holds.
use Rattle.std.specs.Prelude.{ℕ}
use Rattle.std.proofs.Common.{arith}
use Rattle.algebra.specs.Fraction.{Fraction, times, divide}
use Rattle.classes.specs.declared.Class.{Class}
use Rattle.limits.specs.Limit.{three_halves, limit_of, limit_or_zero}

-- milliamperes in an ampere
abbrev pub milliamperes : ℕ
milliamperes = 1000

-- "The limit in units is the m_a figure × K / 1000"
abbrev pub in_units : ℕ → Fraction → Fraction
in_units scale figure = divide (times scale figure) milliamperes (omega arith)

module _ (class : Class) (order scale : ℕ) where
  unfoldable pub limit_in_units : Fraction
  limit_in_units = in_units scale (limit_of class order)

  -- 150 % of the class's own limit, for the peak
  unfoldable pub peak_limit_in_units : Fraction
  peak_limit_in_units = three_halves limit_in_units

  -- the listed limit, or 0 for an order that has none
  abbrev pub listed_in_units : Fraction
  listed_in_units = in_units scale (limit_or_zero class order)

  -- and 150 % of it
  abbrev pub listed_peak_in_units : Fraction
  listed_peak_in_units = three_halves listed_in_units
