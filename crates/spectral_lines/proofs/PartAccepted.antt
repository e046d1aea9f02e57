-- The window of a call for lines that is not refused: it is in range, and a call for any part of its lines accepts it.
use mathlib.Core.Bool.{Bool}
use mathlib.Core.List.{List}
use mathlib.Core.Path.{◌≡◌, sym}
use Prim.Native.Nat.{ℕ, ◌+◌, ◌≤◌}
use borrow.Author.Tests.{le-ltb}
use lib.IntN.{ℤ}
use lib.ListN.{length}
use Rattle.refusals.specs.Numbers.{no_refusal}
use Rattle.windows.specs.Window.{window_at, InRange}
use Rattle.windows.specs.Checks.{window_refusal}
use Rattle.windows.proofs.Accepted.{window-accepted, window-again}
use Rattle.spectral_lines.specs.Line.{line_limit}
use Rattle.spectral_lines.specs.Calls.{lines_from_refusal}

pub accepted_window :
    (recording window : List ℤ) (start : ℕ) (wrong_count : Bool) →
    no_refusal ≡ window_refusal recording start wrong_count →
    window ≡ window_at recording start →
    InRange window
accepted_window recording window start wrong_count passed same =
    rw same (window-accepted recording start wrong_count (sym passed)).in-range

pub part-accepted :
    (recording : List ℤ) (start : ℕ) (wrong_count : Bool) →
    window_refusal recording start wrong_count ≡ no_refusal →
    (first : ℕ) (buffer : List ℕ) →
    first + length buffer ≤ line_limit →
    lines_from_refusal recording start first buffer ≡ no_refusal
unfolding window_refusal lines_from_refusal
part-accepted recording start wrong_count passed first buffer within =
    window-again recording start wrong_count _ passed (le-ltb line_limit (first + length buffer) within)
