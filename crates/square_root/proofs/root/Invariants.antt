-- `square_root::root` meets its contract. The loop's invariant: r is a candidate (`proofs/Newton.antt`); the measure is r, since a step from a candidate above the root gives a smaller one.
use Rattle.square_root.proofs.Newton.{Candidate}
use Rattle.square_root.proofs.root.Given as goal

abbrev pub invariant-loop-r : goal.invariant-loop-r
invariant-loop-r l = Candidate l.n l.r

abbrev pub decreases-loop-r : goal.decreases-loop-r
decreases-loop-r l = l.r
