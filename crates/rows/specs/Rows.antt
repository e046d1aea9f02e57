-- A row (document 01, "The observation record"): "40 values of 32 bits without sign, orders 1..40, with their system"; and with their edition (document 02, card 7).
use Rattle.std.specs.Prelude.{List, ℕ, ◌-◌, ◌^◌, ◌≤◌, get_or, replicate, Result, Ok, Err}
use Rattle.algebra.specs.Lists.{tabulate}
use Rattle.refusals.specs.Numbers.{no_refusal}
use Rattle.refusals.specs.Answers.{number_of}
use Rattle.refusals.specs.declared.Refusal.{Refusal}
use Rattle.rows.specs.declared.Row.{Row}
use Rattle.rows.specs.Orders.{order_count}
use Rattle.rows.specs.Setups.{refused_setup}

-- the largest value of a row: 2^32 − 1
abbrev pub largest_value : ℕ
largest_value = 2 ^ 32 - 1

-- "40 values of 32 bits without sign"
unfoldable pub ValuesFit : Row → Type 0
ValuesFit row = (i : ℕ) → get_or row.values i 0 ≤ largest_value

-- a row that is refused: zeros, of system 10 and edition 2
unfoldable pub refused_row : Row
refused_row = record { setup = refused_setup; values = replicate order_count 0 }

-- the values that some words hold: the first 40 words, 0 where there are fewer
unfoldable pub first_values : List ℕ → List ℕ
first_values words = tabulate order_count (λ i. get_or words i 0)

-- what document 01 has a call for a row answer: a refusal's number, or that of none, and a row
pub record RowAnswer : Type 0 where
  pub refusal : ℕ
  pub row : Row

-- what a result of the code answers: the row, or the refusal's number with the refused row
abbrev pub row_answer_of : Result Row Refusal → RowAnswer
row_answer_of (Ok row) = record { refusal = no_refusal; row = row }
row_answer_of (Err refusal) = record { refusal = number_of refusal; row = refused_row }
