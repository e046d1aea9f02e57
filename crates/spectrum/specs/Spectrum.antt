-- What the call `spectrum` answers and what its buffer then holds (document 01, "From samples to spectrum" and the refusal table's row "spectrum").
use Rattle.std.specs.Prelude.{Bool, not, List, ℕ, eqb, ℤ, length}
use Rattle.refusals.specs.Answers.{first_fault, unless_refused}
use Rattle.windows.specs.Window.{window_at}
use Rattle.windows.specs.Checks.{window_checks}
use Rattle.spectral_lines.specs.Line.{line_count, lines_of}

-- the row "spectrum": 4 buffer not 512 lines
abbrev pub spectrum_checks : List ℤ → ℕ → List ℕ → List (Bool × ℕ)
spectrum_checks recording start buffer = window_checks recording start (not (eqb (length buffer) line_count))

unfoldable pub spectrum_refusal : List ℤ → ℕ → List ℕ → ℕ
spectrum_refusal recording start buffer = first_fault (spectrum_checks recording start buffer)

-- the buffer at exit: the window's lines, or on a refusal what it held
unfoldable pub spectrum_exit : List ℤ → ℕ → List ℕ → List ℕ
spectrum_exit recording start buffer =
    unless_refused (spectrum_refusal recording start buffer) (lines_of (window_at recording start)) buffer
