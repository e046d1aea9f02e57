-- What the private functions are handed, and what the one that the calls share answers. No public contract cites it.
use Rattle.std.specs.Prelude.{Bool, List, ◌≡◌, ℕ, ◌-◌, ◌*◌, ◌^◌, ◌<◌, ◌≤◌, ℤ, nat_abs, ◌+ℤ◌, length}
use Rattle.refusals.specs.Answers.{unless_refused}
use Rattle.windows.specs.Window.{window_at}
use Rattle.windows.specs.Checks.{window_refusal}
use Rattle.spectral_lines.specs.Line.{line_sum, line_of, lines_from}
use Rattle.spectral_lines.specs.Folding.{held_by}
use Rattle.folding.specs.Halving.{folded_window, largest_folded}

-- folded numbers so small that every whole sum of a line is below 2^58: those that the halving at 2^c leaves, times how many of them a sum takes, and the sum of the last two
pub record SumsFit (f : ℕ → ℤ) : Type 0 where
  pub left : (c : ℕ) → c ≤ 9 → (p : ℕ) → 2 ^ c < p → p < 2049 - 2 ^ c → nat_abs (f p) * 2 ^ c ≤ largest_folded
  pub last_two : nat_abs (f 0 +ℤ f 1) < 2 ^ 28

-- a whole sum of a line of the window that was folded, with the cosine or the sine as the wave
abbrev pub SumOfFolded : (ℕ → ℤ) → List ℤ → ℕ → ℤ → Type 0
SumOfFolded wave folded k sum = (window : List ℤ) → held_by folded ≡ folded_window window → sum ≡ line_sum wave window k

-- a line, and some lines, of the window that was folded
abbrev pub LineOfFolded : List ℤ → ℕ → ℕ → Type 0
LineOfFolded folded k line = (window : List ℤ) → held_by folded ≡ folded_window window → line ≡ line_of window k

abbrev pub LinesOfFolded : List ℤ → ℕ → ℕ → List ℕ → Type 0
LinesOfFolded folded first count lines =
    (window : List ℤ) → held_by folded ≡ folded_window window → lines ≡ lines_from first count window

-- the buffer at exit of a call for lines, which has its own test for a buffer of the wrong length: as many lines from the first on as it holds, or on a refusal what it held
unfoldable pub window_exit : List ℤ → ℕ → Bool → ℕ → List ℕ → List ℕ
window_exit recording start wrong_count first buffer =
    unless_refused (window_refusal recording start wrong_count)
    (lines_from first (length buffer) (window_at recording start))
    buffer
