-- What it tells that a call for lines is not refused: the buffer reaches no line that is not there, and the folded window is what its lines need.
use mathlib.Core.Bool.{Bool, false}
use mathlib.Core.List.{List}
use mathlib.Core.Path.{◌≡◌, sym, ap, ◌∙◌}
use Prim.Native.Nat.{ℕ}
use lib.IntN.{ℤ}
use Rattle.refusals.specs.Numbers.{no_refusal}
use Rattle.windows.specs.Window.{window_at}
use Rattle.windows.specs.Checks.{window_refusal}
use Rattle.windows.proofs.Accepted.{window-accepted}
use Rattle.spectral_lines.specs.Line.{lines_from}
use Rattle.spectral_lines.specs.Folding.{held_by}
use Rattle.folding.specs.Halving.{folded_window}
use Rattle.folding.specs.Folded.{folded_exit}
use Rattle.folding.proofs.FoldedList.{exit-held}
use Rattle.spectrum.specs.Prepared.{SumsFit, LinesOfFolded}
use Rattle.spectrum.proofs.FoldedLines.{sums-fit}

module _ (recording : List ℤ) (start : ℕ) (wrong_count : Bool) (passed : no_refusal ≡ window_refusal recording start wrong_count) where
  pub right_count : wrong_count ≡ false
  right_count = (window-accepted recording start wrong_count (sym passed)).right-count

  module _ (folded list : List ℤ) (is : folded ≡ folded_exit recording start wrong_count list) where
    folded_held : held_by folded ≡ folded_window (window_at recording start)
    folded_held = ap held_by is ∙ exit-held recording start wrong_count list (sym passed)

    pub folded-fits : SumsFit (held_by folded)
    folded-fits = sums-fit folded (window_at recording start) (window-accepted recording start wrong_count (sym passed)).in-range folded_held

    -- its lines are the window's
    pub lines-of-window : (first count : ℕ) (lines : List ℕ) → LinesOfFolded folded first count lines → lines ≡ lines_from first count (window_at recording start)
    lines-of-window first count lines of-folded = of-folded (window_at recording start) folded_held
