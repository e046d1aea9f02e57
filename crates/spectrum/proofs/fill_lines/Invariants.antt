-- The first i places hold their lines.
use mathlib.Core.List.{List}
use mathlib.Core.Path.{◌≡◌}
use Prim.Native.Nat.{ℕ, ◌+◌, ◌<◌}
use lib.IntN.{ℤ}
use lib.ListN.{get_or}
use Rattle.spectral_lines.specs.Line.{line_of}
use Rattle.spectral_lines.specs.Folding.{held_by}
use Rattle.folding.specs.Halving.{folded_window}
use Rattle.spectrum.proofs.fill_lines.Given as goal

abbrev pub invariant-loop-i : goal.invariant-loop-i
invariant-loop-i l =
    (window : List ℤ) → held_by l.window.folded.now ≡ folded_window window → (j : ℕ) → j < l.i → get_or l.lines j 0 ≡ line_of window (l.first + j)
