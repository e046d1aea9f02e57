-- What is left to be halved gives the whole, and its numbers times the reach stay below one bound.
use Rattle.spectral_lines.specs.Folding.{held_by}
use Rattle.folding.proofs.ToHalve.{ToHalve}
use Rattle.folding.proofs.halve.Given as goal

abbrev pub invariant-loop-reach : goal.invariant-loop-reach
invariant-loop-reach l = ToHalve (held_by l.initial.list) l.reach (held_by l.list)

abbrev pub decreases-loop-reach : goal.decreases-loop-reach
decreases-loop-reach l = l.reach
