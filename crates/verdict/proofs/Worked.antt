-- The worked numbers of the verdicts (document 01, case •9, the edges of both classes, and each two neighbouring
-- refusals in one call) and of their cases, each a table of rows and one computed theorem over it.
use mathlib.Core.Path.{◌≡◌, refl}
use mathlib.Core.List.{List, [], ◌∷◌, map}
use Prim.Native.Nat.{ℕ}
use Rattle.algebra.specs.Fraction.{whole, times, divide}
use Rattle.rows.specs.Systems.{is_system}
use Rattle.rows.specs.Editions.{is_edition}
use Rattle.rows.specs.Setups.{setup_of, is_setup}
use Rattle.records.specs.declared.Observation.{Observation}
use Rattle.records.specs.Soundness.{none_above, all_zero, is_sound}
use Rattle.observation.specs.Calls.{empty_record}
use Rattle.records.specs.Average.{average_of, peak_of}
use Rattle.records.proofs.WorkedRecords.{worked_record, only}
use Rattle.verdict.specs.declared.Verdict.{Verdict}
use Rattle.verdict.specs.declared.Verdict.TheVariants.{Within, Close, Over}
use Rattle.verdict.specs.Question.{asked}
use Rattle.fractions.specs.Parts.{raised, at_most}
use Rattle.classes.specs.Letters.{letter_of, is_class, class_with}
use Rattle.limits.specs.Limit.{own_figures, over_order, figure_in, class_a_limit, limit_of}
use Rattle.limit_tests.specs.Limit.{limit_in_units, peak_limit_in_units}
use Rattle.limit_tests.specs.Tests.{is_within, is_over}
use Rattle.verdict.specs.Call.{VerdictAnswer, Given, Refused, combined, verdict_in, verdict_refusal, verdict_answer, refusal_number, order_number}

-- ---- the verdicts

-- a record of some windows with the sum and the peak of one order
observed : ℕ → ℕ → ℕ → ℕ → Observation
observed windows order sum peak = worked_record (setup_of 10 0) windows (only order peak) (only order sum) (only order peak)

-- one window with a value at one order
one_window : ℕ → ℕ → Observation
one_window order value = observed 1 order value value

-- an answer, and what it must be
verdict_cases : List (VerdictAnswer × VerdictAnswer)
verdict_cases =
    -- case •9: the average decides
    (verdict_answer (one_window 3 2299988) (asked 3 65 1000000), Given (Within 3)) ∷
    (verdict_answer (one_window 3 2299989) (asked 3 65 1000000), Given (Close 3)) ∷
    (verdict_answer (one_window 3 2300012) (asked 3 65 1000000), Given (Close 3)) ∷
    (verdict_answer (one_window 3 2300013) (asked 3 65 1000000), Given (Over 3)) ∷
    -- the peak decides, against 3450000
    (verdict_answer (observed 2 3 4000000 3449988) (asked 3 65 1000000), Given (Within 3)) ∷
    (verdict_answer (observed 2 3 4000000 3449989) (asked 3 65 1000000), Given (Close 3)) ∷
    (verdict_answer (observed 2 3 4000000 3450012) (asked 3 65 1000000), Given (Close 3)) ∷
    (verdict_answer (observed 2 3 4000000 3450013) (asked 3 65 1000000), Given (Over 3)) ∷
    -- a limit that is not whole: 2250000/19 is 118421 and 1/19
    (verdict_answer (one_window 19 118409) (asked 19 65 1000000), Given (Within 19)) ∷
    (verdict_answer (one_window 19 118410) (asked 19 65 1000000), Given (Close 19)) ∷
    (verdict_answer (one_window 19 118433) (asked 19 65 1000000), Given (Close 19)) ∷
    (verdict_answer (one_window 19 118434) (asked 19 65 1000000), Given (Over 19)) ∷
    -- against it the average of 19 windows, which is not divided either: 19 times the limit is 2250000, and 19 × 12 is 228
    (verdict_answer (observed 19 19 2249772 0) (asked 19 65 1000000), Given (Within 19)) ∷
    (verdict_answer (observed 19 19 2249773 0) (asked 19 65 1000000), Given (Close 19)) ∷
    (verdict_answer (observed 19 19 2250228 0) (asked 19 65 1000000), Given (Close 19)) ∷
    (verdict_answer (observed 19 19 2250229 0) (asked 19 65 1000000), Given (Over 19)) ∷
    -- the peak of such a limit, against 3375000/19, 177631 and 11/19
    (verdict_answer (observed 2 19 200000 177619) (asked 19 65 1000000), Given (Within 19)) ∷
    (verdict_answer (observed 2 19 200000 177620) (asked 19 65 1000000), Given (Close 19)) ∷
    (verdict_answer (observed 2 19 200000 177643) (asked 19 65 1000000), Given (Close 19)) ∷
    (verdict_answer (observed 2 19 200000 177644) (asked 19 65 1000000), Given (Over 19)) ∷
    -- class B: the average decides, against 3450000; value + 12 equal to the limit and one more, value − 12 equal and one more
    (verdict_answer (one_window 3 3449988) (asked 3 66 1000000), Given (Within 3)) ∷
    (verdict_answer (one_window 3 3449989) (asked 3 66 1000000), Given (Close 3)) ∷
    (verdict_answer (one_window 3 3450012) (asked 3 66 1000000), Given (Close 3)) ∷
    (verdict_answer (one_window 3 3450013) (asked 3 66 1000000), Given (Over 3)) ∷
    -- the peak decides, against 5175000, three halves of class B's own limit
    (verdict_answer (observed 2 3 6000000 5174988) (asked 3 66 1000000), Given (Within 3)) ∷
    (verdict_answer (observed 2 3 6000000 5174989) (asked 3 66 1000000), Given (Close 3)) ∷
    (verdict_answer (observed 2 3 6000000 5175012) (asked 3 66 1000000), Given (Close 3)) ∷
    (verdict_answer (observed 2 3 6000000 5175013) (asked 3 66 1000000), Given (Over 3)) ∷
    -- limits that are not whole: 3375000/19 as above, and 5062500/19, 266447 and 7/19
    (verdict_answer (one_window 19 177619) (asked 19 66 1000000), Given (Within 19)) ∷
    (verdict_answer (one_window 19 177620) (asked 19 66 1000000), Given (Close 19)) ∷
    (verdict_answer (one_window 19 177643) (asked 19 66 1000000), Given (Close 19)) ∷
    (verdict_answer (one_window 19 177644) (asked 19 66 1000000), Given (Over 19)) ∷
    (verdict_answer (observed 2 19 200000 266435) (asked 19 66 1000000), Given (Within 19)) ∷
    (verdict_answer (observed 2 19 200000 266436) (asked 19 66 1000000), Given (Close 19)) ∷
    (verdict_answer (observed 2 19 200000 266459) (asked 19 66 1000000), Given (Close 19)) ∷
    (verdict_answer (observed 2 19 200000 266460) (asked 19 66 1000000), Given (Over 19)) ∷
    -- 6: the orders 2..40 are judged
    (verdict_answer (one_window 3 0) (asked 1 65 1000000), Refused 6) ∷
    (verdict_answer (one_window 3 0) (asked 2 65 1000000), Given (Within 2)) ∷
    (verdict_answer (one_window 3 0) (asked 40 65 1000000), Given (Within 40)) ∷
    (verdict_answer (one_window 3 0) (asked 41 65 1000000), Refused 6) ∷
    (verdict_answer (one_window 3 0) (asked 1 66 1000000), Refused 6) ∷
    (verdict_answer (one_window 3 0) (asked 41 66 1000000), Refused 6) ∷
    -- 15: the letters are A and B, as capitals
    (verdict_answer (one_window 3 0) (asked 3 64 1000000), Refused 15) ∷
    (verdict_answer (one_window 3 0) (asked 3 67 1000000), Refused 15) ∷
    (verdict_answer (one_window 3 0) (asked 3 68 1000000), Refused 15) ∷
    (verdict_answer (one_window 3 0) (asked 3 97 1000000), Refused 15) ∷
    (verdict_answer (one_window 3 0) (asked 3 98 1000000), Refused 15) ∷
    -- 11: K is 1..2^28
    (verdict_answer (one_window 3 0) (asked 3 65 0), Refused 11) ∷
    (verdict_answer (one_window 3 0) (asked 3 65 1), Given (Close 3)) ∷
    (verdict_answer (one_window 3 0) (asked 3 65 268435456), Given (Within 3)) ∷
    (verdict_answer (one_window 3 0) (asked 3 65 268435457), Refused 11) ∷
    (verdict_answer (one_window 3 0) (asked 3 66 0), Refused 11) ∷
    (verdict_answer (one_window 3 0) (asked 3 66 268435456), Given (Within 3)) ∷
    (verdict_answer (one_window 3 0) (asked 3 66 268435457), Refused 11) ∷
    -- 10: no window yet
    (verdict_answer (empty_record (setup_of 10 0)) (asked 3 65 1000000), Refused 10) ∷
    (verdict_answer (empty_record (setup_of 10 1)) (asked 3 65 1000000), Refused 10) ∷
    -- 7 before 10, 10 before 6, 6 before 15, 15 before 11; and 6 before 11
    (verdict_answer (empty_record (setup_of 11 0)) (asked 3 65 1000000), Refused 7) ∷
    (verdict_answer (empty_record (setup_of 10 2)) (asked 3 65 1000000), Refused 7) ∷
    (verdict_answer (empty_record (setup_of 10 0)) (asked 41 65 1000000), Refused 10) ∷
    (verdict_answer (one_window 3 0) (asked 1 67 1000000), Refused 6) ∷
    (verdict_answer (one_window 3 0) (asked 3 67 0), Refused 15) ∷
    (verdict_answer (one_window 3 0) (asked 1 65 0), Refused 6) ∷
    []

verdicts-worked : map (λ row. row.0) verdict_cases ≡ map (λ row. row.1) verdict_cases
unfolding verdict_cases observed one_window empty_record is_setup is_system is_edition none_above all_zero is_sound whole times divide limit_of class_a_limit figure_in own_figures over_order limit_in_units peak_limit_in_units raised at_most is_within is_over average_of peak_of combined verdict_in verdict_refusal verdict_answer is_class class_with letter_of
verdicts-worked = refl

-- ---- the numbers of the cases

-- an answer, and its number: "a refused verdict: the number alone"
abbrev numbers : List (VerdictAnswer × ℕ)
numbers =
    (Given (Within 3), 0) ∷
    (Given (Close 3), 0) ∷
    (Given (Over 3), 0) ∷
    (Refused 6, 6) ∷
    (Refused 7, 7) ∷
    (Refused 10, 10) ∷
    (Refused 11, 11) ∷
    (Refused 15, 15) ∷
    []

numbers-worked : map (λ c. refusal_number c.0) numbers ≡ map (λ c. c.1) numbers
unfolding refusal_number
numbers-worked = refl

-- a verdict, and the order that it carries
abbrev orders : List (Verdict × ℕ)
orders = (Within 2, 2) ∷ (Close 39, 39) ∷ (Over 40, 40) ∷ []

orders-worked : map (λ c. order_number c.0) orders ≡ map (λ c. c.1) orders
unfolding order_number
orders-worked = refl
