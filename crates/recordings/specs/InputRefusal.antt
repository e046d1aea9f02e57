-- The refusal of an input: the first of its lines in input order, or that of its end (document 01, "Columns and the listing").
use Rattle.std.specs.Prelude.{Bool, true, cond, not, ◌&&◌, List, [], ◌∷◌, ℕ, zero, suc, ◌+◌, ◌-◌, ◌*◌, ◌%◌, eqb, ℤ, pos, negsuc, Option, is_none}
use Rattle.refusals.specs.Numbers.{no_refusal, not_a_column, unknown_system, sample_out_of_range, record_full, no_window, short_window}
use Rattle.refusals.specs.Answers.{first_fault}
use Rattle.windows.specs.Window.{window_length, out_of_range}
use Rattle.rows.specs.Systems.{is_system}
use Rattle.records.specs.Soundness.{most_windows}
use Rattle.recordings.specs.TextLines.{text_line_count, text_line_at, text_line_number, number_or0}

-- a number that is no system; one with a minus is none
unfoldable pub no_system : ℤ → Bool
no_system (pos n) = not (is_system n)
no_system (negsuc n) = true

-- "13 for another line (also one without its newline) .., 1, 3, 9 at the last line of window 45,001, and two on one line in
-- that order": by the number on a line and the line's place; line 0 has the system, line i the i-th sample
abbrev pub number_checks : Option ℤ → ℕ → List (Bool × ℕ)
number_checks number i =
    (is_none number, not_a_column) ∷
    (eqb i 0 && no_system (number_or0 number), unknown_system) ∷
    (not (eqb i 0) && out_of_range (number_or0 number), sample_out_of_range) ∷
    (eqb i (window_length * (most_windows + 1)), record_full) ∷
    []

unfoldable pub number_refusal : Option ℤ → ℕ → ℕ
number_refusal number i = first_fault (number_checks number i)

-- the refusal of a line of the text
unfoldable pub text_line_refusal : List ℕ → ℕ → ℕ
text_line_refusal text i = number_refusal (text_line_number (text_line_at text i)) i

-- the first refusal of the places before n in their order, with the refusal of each place given
unfoldable pub first_of : (ℕ → ℕ) → ℕ → ℕ
first_of refusal zero = no_refusal
first_of refusal (suc n) = cond (eqb (first_of refusal n) no_refusal) (refusal n) (first_of refusal n)

-- the first refusal of the lines before line n
unfoldable pub refusal_before : List ℕ → ℕ → ℕ
refusal_before text n = first_of (text_line_refusal text) n

-- "no system line" 13; "at the end 10 (no sample at all) or 2 (the last window is short)"
abbrev pub end_checks : ℕ → List (Bool × ℕ)
end_checks lines =
    (eqb lines 0, not_a_column) ∷
    (eqb lines 1, no_window) ∷
    (not (eqb ((lines - 1) % window_length) 0), short_window) ∷
    []

unfoldable pub end_refusal : ℕ → ℕ
end_refusal lines = first_fault (end_checks lines)

-- the refusal of an input, or none
unfoldable pub input_refusal : List ℕ → ℕ
input_refusal text =
    cond (eqb (refusal_before text (text_line_count text)) no_refusal) (end_refusal (text_line_count text))
    (refusal_before text (text_line_count text))
