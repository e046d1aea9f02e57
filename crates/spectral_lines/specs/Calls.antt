-- What a call for a part of a window's lines 0..1,023 answers and what its buffer then holds (document 01, the refusal table's row "spectrum").
use Rattle.std.specs.Prelude.{Bool, List, ℕ, ◌+◌, ltb, ℤ, length}
use Rattle.refusals.specs.Answers.{first_fault, unless_refused}
use Rattle.windows.specs.Window.{window_at}
use Rattle.windows.specs.Checks.{window_checks}
use Rattle.spectral_lines.specs.Line.{line_limit, lines_from}

-- the row "spectrum" of a call for as many lines as the buffer holds from the first on: 4 the buffer reaches past line 1,023
abbrev pub lines_from_checks : List ℤ → ℕ → ℕ → List ℕ → List (Bool × ℕ)
lines_from_checks recording start first buffer =
    window_checks recording start (ltb line_limit (first + length buffer))

unfoldable pub lines_from_refusal : List ℤ → ℕ → ℕ → List ℕ → ℕ
lines_from_refusal recording start first buffer = first_fault (lines_from_checks recording start first buffer)

-- the buffer at exit: the window's lines from the first on, or on a refusal what it held
unfoldable pub lines_from_exit : List ℤ → ℕ → ℕ → List ℕ → List ℕ
lines_from_exit recording start first buffer =
    unless_refused (lines_from_refusal recording start first buffer)
    (lines_from first (length buffer) (window_at recording start))
    buffer
