-- Worked figures, and the whole answers of the call `three_second_value`: each a table of rows and one computed theorem over it.
use mathlib.Core.List.{List, [], ◌∷◌, ◌++◌, map}
use mathlib.Core.Path.{◌≡◌, refl}
use Prim.Native.Nat.{ℕ, ◌+◌}
use lib.ListN.{replicate}
use Rattle.algebra.specs.Largest.{largest}
use Rattle.algebra.specs.Lists.{tabulate, joined}
use Rattle.algebra.specs.Weighted.{sum_over}
use Rattle.refusals.specs.Answers.{Answer}
use Rattle.rows.specs.Systems.{is_system}
use Rattle.rows.specs.Editions.{is_edition}
use Rattle.rows.specs.Setups.{setup_of, is_setup}
use Rattle.rows.specs.Orders.{is_order}
use Rattle.wide_numbers.specs.Squares.{sum_of_squares}
use Rattle.records.specs.declared.Observation.{Observation}
use Rattle.latest_rows.specs.Latest.{latest_values}
use Rattle.records.specs.Soundness.{none_above, all_zero, is_sound}
use Rattle.records.proofs.WorkedRecords.{worked_record, keeping, single, rows_of}
use Rattle.three_seconds.specs.ThreeSecond.{three_second_of, three_second_refusal, three_second_answer}

-- ---- figures

-- 1, 2, .. n
abbrev up_to : ℕ → List ℕ
up_to n = tabulate n (λ j. j + 1)

-- 15 values of which only the last is not 0
abbrev last_only : ℕ → List ℕ
last_only value = replicate 14 0 ++ (value ∷ [])

-- 15 values, and their figure
abbrev figures : List (List ℕ × ℕ)
figures =
    (replicate 15 0, 0) ∷
    (replicate 15 1, 1) ∷
    (replicate 15 230000, 230000) ∷
    -- the largest values
    (replicate 15 4294967295, 4294967295) ∷
    -- 1240 is at least 15 × 9² and less than 15 × 10²
    (up_to 15, 9) ∷
    -- 15² is 15 × 15, and 15 lies between 3² and 4²
    (last_only 15, 3) ∷
    (15 ∷ replicate 14 0, 3) ∷
    -- a square just too small for 15 × 1², and just enough
    (last_only 3, 0) ∷
    (last_only 4, 1) ∷
    -- by the squares and not by the values: 15 × 258² is 998,460 and 15 × 259² is 1,006,215, where the mean of the values is 66
    (last_only 1000, 258) ∷
    []

figures-worked : map (λ c. three_second_of c.0) figures ≡ map (λ c. c.1) figures
unfolding three_second_of sum_of_squares sum_over largest tabulate
figures-worked = refl

-- ---- the call

-- a record by its system, its windows and its latest rows, whose other numbers are zeros
abbrev holding : ℕ → ℕ → List ℕ → Observation
holding system windows latest =
    let zeros : List ℕ = replicate 40 0 in keeping latest (worked_record (setup_of system 0) windows zeros zeros zeros)

-- a record, an order, and what is answered
pub record Call : Type 0 where
  pub observation : Observation
  pub order : ℕ
  pub answered : Answer

abbrev given : Observation → ℕ → ℕ → Call
given observation order value =
    record { observation = observation; order = order; answered = record { refusal = 0; value = value } }

-- a refused call answers the value 0
abbrev refused : Observation → ℕ → ℕ → Call
refused observation order refusal =
    record { observation = observation; order = order; answered = record { refusal = refusal; value = 0 } }

abbrev calls : List Call
calls =
    -- the first order and the last, at 15 windows
    given (holding 10 15 (rows_of 1 (up_to 15))) 1 9 ∷
    given (holding 12 15 (rows_of 40 (up_to 15))) 40 9 ∷
    given (holding 10 15 (replicate 600 4294967295)) 1 4294967295 ∷
    given (holding 10 15 (replicate 600 0)) 40 0 ∷
    -- the values of no other order count
    given (holding 10 15 (rows_of 1 (up_to 15))) 2 0 ∷
    given (holding 10 15 (rows_of 40 (up_to 15))) 39 0 ∷
    -- the oldest row counts and so does the latest, wherever they stand
    given (holding 10 15 (single 0 1000)) 1 258 ∷
    given (holding 10 15 (single 599 1000)) 40 258 ∷
    given (holding 10 16 (single 0 1000)) 1 258 ∷
    given (holding 10 16 (single 40 1000)) 1 258 ∷
    given (holding 10 44999 (single 599 1000)) 40 258 ∷
    given (holding 10 45000 (single 0 1000)) 1 258 ∷
    -- the sixteenth row where the first stood: 1239 + 16²
    given (holding 10 16 (rows_of 1 (16 ∷ 2 ∷ 3 ∷ 4 ∷ 5 ∷ 6 ∷ 7 ∷ 8 ∷ 9 ∷ 10 ∷ 11 ∷ 12 ∷ 13 ∷ 14 ∷ 15 ∷ []))) 1 9 ∷
    given (holding 10 16 (rows_of 1 (17 ∷ 2 ∷ 3 ∷ 4 ∷ 5 ∷ 6 ∷ 7 ∷ 8 ∷ 9 ∷ 10 ∷ 11 ∷ 12 ∷ 13 ∷ 14 ∷ 15 ∷ []))) 1 10 ∷
    -- 7: no such system, 45,001 windows, a kept value past the windows held
    refused (holding 11 15 (replicate 600 0)) 1 7 ∷
    refused (holding 10 45001 (replicate 600 0)) 1 7 ∷
    refused (holding 10 14 (single 560 1)) 1 7 ∷
    refused (holding 10 0 (single 599 1)) 1 7 ∷
    -- 6: the orders are 1..40
    refused (holding 10 15 (rows_of 1 (up_to 15))) 0 6 ∷
    refused (holding 10 15 (rows_of 1 (up_to 15))) 41 6 ∷
    refused (holding 10 15 (rows_of 1 (up_to 15))) 4294967295 6 ∷
    -- 20: before the fifteenth window
    refused (holding 10 0 (replicate 600 0)) 1 20 ∷
    refused (holding 10 14 (replicate 600 0)) 1 20 ∷
    refused (holding 10 14 (single 559 4294967295)) 40 20 ∷
    -- two faults: 7 before 6, 6 before 20; and 7 before 20
    refused (holding 11 15 (replicate 600 0)) 0 7 ∷
    refused (holding 11 14 (replicate 600 0)) 41 7 ∷
    refused (holding 10 14 (replicate 600 0)) 41 6 ∷
    refused (holding 10 0 (replicate 600 0)) 0 6 ∷
    refused (holding 11 14 (replicate 600 0)) 1 7 ∷
    []

calls-worked : map (λ c. three_second_answer c.observation c.order) calls ≡ map (λ c. c.answered) calls
unfolding three_second_answer three_second_refusal three_second_of sum_of_squares sum_over largest latest_values tabulate joined is_sound is_setup is_system is_edition is_order none_above all_zero
calls-worked = refl
