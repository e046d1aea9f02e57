-- Worked figures of the tests and of the limits in units, each a table of rows and one computed theorem over it.
use mathlib.Core.Path.{◌≡◌, refl}
use mathlib.Core.Bool.{Bool, true, false}
use mathlib.Core.List.{List, [], ◌∷◌, map}
use Rattle.algebra.specs.Fraction.{Fraction, whole, times, divide}
use Rattle.algebra.specs.LowestTerms.{least, least_denominator, lowest_terms}
use Rattle.fractions.specs.declared.Ratio.{Ratio}
use Rattle.fractions.specs.Parts.{ratio, parts, raised, at_most}
use Rattle.classes.specs.declared.Class.TheVariants.{A, B}
use Rattle.limits.specs.Limit.{own_figures, over_order, figure_in, class_a_limit, limit_of}
use Rattle.limit_tests.specs.Limit.{limit_in_units, peak_limit_in_units, listed_in_units, listed_peak_in_units}
use Rattle.limit_tests.specs.Tests.{is_within, is_over}

-- ---- the tests

-- a value and a limit, and whether the value is within it and whether it is over it
pub record Tested : Type 0 where
  pub value : Ratio
  pub limit : Ratio
  pub within : Bool
  pub over : Bool

abbrev tested : Ratio → Ratio → Bool → Bool → Tested
tested value limit within over = record { value = value; limit = limit; within = within; over = over }

abbrev tests : List Tested
tests =
    -- 12 units on each side, and neither test on them
    tested (ratio 100 1) (ratio 112 1) true false ∷
    tested (ratio 101 1) (ratio 112 1) false false ∷
    tested (ratio 124 1) (ratio 112 1) false false ∷
    tested (ratio 125 1) (ratio 112 1) false true ∷
    -- an average of 19 windows and a limit that is not whole, 118421 and 1/19: neither is divided
    tested (ratio 2249772 19) (ratio 2250000 19) true false ∷
    tested (ratio 2249773 19) (ratio 2250000 19) false false ∷
    tested (ratio 2250228 19) (ratio 2250000 19) false false ∷
    tested (ratio 2250229 19) (ratio 2250000 19) false true ∷
    -- a limit below 12 units, and one of 0
    tested (ratio 0 1) (ratio 11 1) false false ∷
    tested (ratio 0 1) (ratio 0 1000) false false ∷
    tested (ratio 13 1) (ratio 0 1000) false true ∷
    []

tests-worked :
    (map (λ c. is_within c.value c.limit) tests ≡ map (λ c. c.within) tests)
    × (map (λ c. is_over c.value c.limit) tests ≡ map (λ c. c.over) tests)
unfolding is_within is_over raised at_most
tests-worked = (refl, refl)

-- ---- the limits in units

-- a limit in units, and its parts
abbrev limits_in_units : List (Fraction × Ratio)
limits_in_units =
    -- 2,300 m_a and 2250/19 m_a at a million units per ampere, and half as much again in class B
    (listed_in_units A 3 1000000, ratio 2300000000 1000) ∷
    (listed_in_units A 19 1000000, ratio 2250000000 19000) ∷
    (listed_in_units B 3 1000000, ratio 3450000000 1000) ∷
    (listed_in_units B 19 1000000, ratio 3375000000 19000) ∷
    -- 150 % of these, for the peak
    (listed_peak_in_units A 3 1000000, ratio 6900000000 2000) ∷
    (listed_peak_in_units A 19 1000000, ratio 6750000000 38000) ∷
    (listed_peak_in_units B 3 1000000, ratio 10350000000 2000) ∷
    (listed_peak_in_units B 19 1000000, ratio 10125000000 38000) ∷
    -- in lowest terms where the rule's limit is not
    (limit_in_units A 39 1000, ratio 2250000 39000) ∷
    (listed_in_units A 39 1000, ratio 750000 13000) ∷
    (peak_limit_in_units B 39 1000, ratio 20250000 156000) ∷
    (listed_peak_in_units B 39 1000, ratio 3375000 26000) ∷
    -- no unit in an ampere, and the most
    (listed_in_units A 3 0, ratio 0 1000) ∷
    (listed_peak_in_units B 3 4294967295, ratio 44452911503250 2000) ∷
    -- 0 for an order that has no limit
    (listed_in_units A 0 1000000, ratio 0 1000) ∷
    (listed_in_units B 1 1000000, ratio 0 1000) ∷
    (listed_in_units A 41 1000000, ratio 0 1000) ∷
    (listed_peak_in_units B 41 1000000, ratio 0 2000) ∷
    []

limits_in_units-worked : map (λ row. parts row.0) limits_in_units ≡ map (λ row. row.1) limits_in_units
unfolding limit_in_units peak_limit_in_units limit_of class_a_limit figure_in own_figures over_order whole times divide lowest_terms least_denominator least
limits_in_units-worked = refl
