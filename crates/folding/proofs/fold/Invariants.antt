-- The list is folded at the places before low and at their mirrors, and holds between them what it did.
use Rattle.spectral_lines.specs.Folding.{held_by}
use Rattle.folding.proofs.Partly.{Partly}
use Rattle.folding.proofs.fold.Given as goal

abbrev pub invariant-loop-low : goal.invariant-loop-low
invariant-loop-low l = Partly l.first l.last (held_by l.initial.list) l.low (held_by l.list)
