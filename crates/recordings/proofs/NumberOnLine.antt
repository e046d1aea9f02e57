-- The number on a line of a text, as the reader finds it: what stands before a newline at its end is read as a column, and a text without one has none.
use mathlib.Core.Bool.{and-false}
use mathlib.Core.List.{List}
use mathlib.Core.Path.{◌≡◌}
use Prim.Native.Nat.{ℕ, ◌-◌, ◌*◌, ◌<◌}
use native.Mathlib.Decide.{ℕ_discrete}
use native.Mathlib.Omega.{arith}
use borrow.Author.Tests.{eq-eqb, ne_eqb}
use lib.ListN.{length, get_or, take, drop, length-take, length-drop}
use Rattle.std.specs.Prelude.{None}
use Rattle.columns.specs.Text.{newline}
use Rattle.columns.specs.Calls.{column_width, reading_of, column_read_answer}
use Rattle.recordings.specs.TextLines.{text_line_bytes, text_line_at, text_line_number}

pub text_line_number_ended :
    (line : List ℕ) → get_or line (length line - 1) 0 ≡ newline →
    reading_of (text_line_number line) ≡ column_read_answer (take (length line - 1) line)
unfolding text_line_number column_read_answer
text_line_number_ended line ends = by_length (ℕ_discrete (length line) text_line_bytes)
  where
    by_length : Dec (length line ≡ text_line_bytes) → reading_of (text_line_number line) ≡ column_read_answer (take (length line - 1) line)
    by_length (yes e) =
        let before : length line - 1 ≡ column_width = omega arith in
        let byte : get_or line column_width 0 ≡ newline = rw before at ends in
        let long : length (take column_width line) ≡ column_width = simp length-take (omega arith) in
        rw (before, eq-eqb (length line) text_line_bytes e, eq-eqb (get_or line column_width 0) newline byte, eq-eqb (length (take column_width line)) column_width long)
    by_length (no f) =
        let other : length (take (length line - 1) line) ≡ column_width → ⊥ = λ e. f (omega (arith, length-take (length line - 1) line)) in
        rw (ne_eqb (length line) text_line_bytes f, ne_eqb (length (take (length line - 1) line)) column_width other)

pub text_line_number_other : (line : List ℕ) → (get_or line (length line - 1) 0 ≡ newline → ⊥) → text_line_number line ≡ None
unfolding text_line_number
text_line_number_other line other = by_length (ℕ_discrete (length line) text_line_bytes)
  where
    by_length : Dec (length line ≡ text_line_bytes) → text_line_number line ≡ None
    by_length (yes e) =
        let before : length line - 1 ≡ column_width = omega arith in
        let byte : get_or line column_width 0 ≡ newline → ⊥ = rw before at other in
        rw (ne_eqb (get_or line column_width 0) newline byte, and-false)
    by_length (no f) = rw (ne_eqb (length line) text_line_bytes f)

-- a line that is cut off has none
pub text_line_number-cut :
    (text : List ℕ) (i : ℕ) → length text - text_line_bytes * i < text_line_bytes → text_line_number (text_line_at text i) ≡ None
unfolding text_line_number text_line_at
text_line_number-cut text i h =
    let rest = drop (text_line_bytes * i) text in
    let short : length (take text_line_bytes rest) ≡ text_line_bytes → ⊥ =
    λ e. omega (arith, length-take text_line_bytes rest, length-drop (text_line_bytes * i) text) in
    rw (ne_eqb (length (take text_line_bytes rest)) text_line_bytes short)
