-- The first i places hold their lines.
use mathlib.Core.Path.{◌≡◌}
use Prim.Native.Nat.{ℕ, ◌+◌, ◌<◌}
use lib.ListN.{get_or}
use Rattle.spectral_lines.specs.Line.{line_of}
use Rattle.single_lines.proofs.fill_alone.Given as goal

abbrev pub invariant-loop-i : goal.invariant-loop-i
invariant-loop-i l = (j : ℕ) → j < l.i → get_or l.lines j 0 ≡ line_of l.window.samples.now (l.first + j)
