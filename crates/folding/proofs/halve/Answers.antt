-- The numbers stay small enough between the two foldings of a halving, and where the reach is 1 all is done.
use Rattle.std.proofs.Common.{arith}
use Rattle.folding.proofs.ToHalve.{small-between, all-halved}
use Rattle.folding.proofs.halve.Goals as goal

pub fold-requires-in-loop-reach-clause-bounded : goal.fold-requires-in-loop-reach-clause-bounded
fold-requires-in-loop-reach-clause-bounded c = λ p. small-between _ _ _ _ p c.fold.ensures c.loop-reach.invariant

pub returns : goal.returns
returns c = all-halved _ _ _ (omega arith) c.loop-reach.invariant
