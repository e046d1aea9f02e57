-- The line for a refusal (document 01, "Columns and the listing"), and what the call that writes it answers.
use Rattle.std.specs.Prelude.{Bool, List, [], ◌∷◌, ◌++◌, ℕ, ◌+◌, pos}
use Rattle.refusals.specs.Answers.{first_fault, unless_refused}
use Rattle.columns.specs.Text.{newline, bytes_of}
use Rattle.columns.specs.Column.{column_text}
use Rattle.columns.specs.Calls.{length_check, width_check}

-- the line that the program writes in place of a listing: "`refused`, the number in a column of 3 bytes, and a newline"
abbrev pub refusal_width : ℕ
refusal_width = 3

abbrev pub refusal_line_length : ℕ
refusal_line_length = 7 + refusal_width + 1

unfoldable pub refusal_line : ℕ → List ℕ
refusal_line refusal =
    bytes_of "refused" ++ column_text refusal_width (pos refusal) ++ (newline ∷ [])

-- the checks of "column write", for a text of 11 bytes that has a column of 3
abbrev pub refusal_line_checks : List ℕ → ℕ → List (Bool × ℕ)
refusal_line_checks buffer refusal = length_check refusal_line_length buffer ∷ width_check refusal_width (pos refusal) ∷ []

abbrev pub refusal_line_refusal : List ℕ → ℕ → ℕ
refusal_line_refusal buffer refusal = first_fault (refusal_line_checks buffer refusal)

-- what the buffer holds after the line is written
abbrev pub refusal_line_exit : List ℕ → ℕ → List ℕ
refusal_line_exit buffer refusal =
    unless_refused (refusal_line_refusal buffer refusal) (refusal_line refusal) buffer
