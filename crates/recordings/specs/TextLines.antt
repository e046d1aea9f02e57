-- The lines of a recording's text (document 01, "Columns and the listing"): "a line with the system, then one line per sample, windows back to back; a line is one 8-byte column and a newline".
use Rattle.std.specs.Prelude.{cond, ◌&&◌, List, ℕ, ◌+◌, ◌*◌, ◌/◌, eqb, ℤ, pos, Option, None, Some, length, get_or, take, drop}
use Rattle.columns.specs.Text.{newline}
use Rattle.columns.specs.Column.{column_number}
use Rattle.columns.specs.Calls.{column_width}

-- the bytes of a line
abbrev pub text_line_bytes : ℕ
text_line_bytes = column_width + 1

-- how many lines a text has, a last one that is cut off among them
unfoldable pub text_line_count : List ℕ → ℕ
text_line_count text = (length text + column_width) / text_line_bytes

-- The line with a number, counted from 0. Up to the first line that is wrong every line has 9 bytes, so cutting at every ninth
-- byte finds that line where cutting at newlines does: a shorter or a longer line has its newline at another place.
unfoldable pub text_line_at : List ℕ → ℕ → List ℕ
text_line_at text i = take text_line_bytes (drop (text_line_bytes * i) text)

-- the number on a line, or none where the line is not a column and a newline
unfoldable pub text_line_number : List ℕ → Option ℤ
text_line_number line =
    cond
    (eqb (length line) text_line_bytes && eqb (get_or line column_width 0) newline)
    (column_number (take column_width line))
    None

-- the number, 0 where there is none
unfoldable pub number_or0 : Option ℤ → ℤ
number_or0 None = pos 0
number_or0 (Some z) = z

unfoldable pub number_at : List ℕ → ℕ → ℤ
number_at text i = number_or0 (text_line_number (text_line_at text i))
