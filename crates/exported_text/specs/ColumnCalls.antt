-- What the call that reads a number column hands to the caller: document 01, "Columns and the listing".
use Rattle.std.specs.Prelude.{List, ℕ, ℤ}
use Rattle.refusals.specs.Answers.{unless_refused}
use Rattle.columns.specs.Calls.{column_read_answer}

-- the number at exit; on a refusal what it was
unfoldable pub column_call_exit : List ℕ → ℤ → ℤ
column_call_exit text number = unless_refused (column_read_answer text).refusal (column_read_answer text).value number
