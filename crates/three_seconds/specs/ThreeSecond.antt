-- The three-second value of an order, and what the call `three_second_value` answers (document 02, card 8).
use Rattle.std.specs.Prelude.{Bool, List, [], ◌∷◌, ℕ, ◌-◌, ◌*◌, leb, ltb}
use Rattle.algebra.specs.Largest.{largest}
use Rattle.refusals.specs.Numbers.{too_few_windows}
use Rattle.refusals.specs.Answers.{first_fault, Answer, answer}
use Rattle.rows.specs.Orders.{order_check}
use Rattle.wide_numbers.specs.Squares.{sum_of_squares}
use Rattle.records.specs.declared.Observation.{Observation}
use Rattle.latest_rows.specs.Latest.{rows_kept, latest_values}
use Rattle.records.specs.Soundness.{sound_first}

-- binary digits that are enough: 15 squares of 32-bit values add up to less than 15 × 2^64
abbrev pub three_second_digits : ℕ
three_second_digits = 32

-- "the largest t with 15×t² at most the sum of the 15 squared group values"
unfoldable pub three_second_of : List ℕ → ℕ
three_second_of values = largest (λ t. leb (rows_kept * (t * t)) (sum_of_squares values)) three_second_digits

-- that of the order's values in the rows that a record keeps, "over the latest 15 windows"
abbrev pub three_second_in : Observation → ℕ → ℕ
three_second_in o order = three_second_of (latest_values o.windows o.latest (order - 1))

-- what a record with a count of windows turns away, by the order: 6 order outside 1..40; 20 "before the fifteenth window"
abbrev pub asked_checks : ℕ → ℕ → List (Bool × ℕ)
asked_checks order windows = order_check order ∷ (ltb windows rows_kept, too_few_windows) ∷ []

-- 7 record not sound comes before these
abbrev pub three_second_checks : Observation → ℕ → List (Bool × ℕ)
three_second_checks o order = sound_first o (asked_checks order o.windows)

unfoldable pub three_second_refusal : Observation → ℕ → ℕ
three_second_refusal o order = first_fault (three_second_checks o order)

unfoldable pub three_second_answer : Observation → ℕ → Answer
three_second_answer o order = answer (three_second_refusal o order) (three_second_in o order)
