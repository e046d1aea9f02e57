-- `harmlist::read_blocks` meets its contract. The invariant is that the blocks so far were whole; the measure is how many may still come.
use Rattle.harmlist.proofs.Blocks.{SoFar, blocks_left}
use Rattle.harmlist.proofs.read_blocks.Given as goal

abbrev pub invariant-loop-reading : goal.invariant-loop-reading
invariant-loop-reading l = SoFar l.initial.reading l.reading

abbrev pub decreases-loop-reading : goal.decreases-loop-reading
decreases-loop-reading l = blocks_left l.reading
