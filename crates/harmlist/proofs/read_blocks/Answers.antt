use Rattle.std.proofs.Common.{refl}
use Rattle.harmlist.specs.declared.Input.TheVariants.{Ended, Whole}
use Rattle.harmlist.specs.Input.{BlockRead}
use Rattle.harmlist.proofs.Blocks.{begins, stops, ends_with, next, fewer-left}
use Rattle.harmlist.proofs.read_blocks.Goals as goal

pub loop-reading-init : goal.loop-reading-init
loop-reading-init c = begins _

pub returns-in-Ended : goal.returns-in-Ended
returns-in-Ended c =
    let read : BlockRead c.loop-reading.reading (Ended c.in-Ended.last) = rw c.in-Ended.is at c.in_ok-last.ensures in
    ends_with _ _ c.loop-reading.invariant (Ended c.in-Ended.last) read refl

pub loop-reading-smaller : goal.loop-reading-smaller
loop-reading-smaller c =
    let read : BlockRead c.loop-reading.reading (Whole c.in-Whole.more) = rw c.in-Whole.is at c.in_ok-last.ensures in
    fewer-left _ _ c.loop-reading.invariant (Whole c.in-Whole.more) read refl c.loop-reading-test.true

pub loop-reading-preserved : goal.loop-reading-preserved
loop-reading-preserved c =
    let read : BlockRead c.loop-reading.reading (Whole c.in-Whole.more) = rw c.in-Whole.is at c.in_ok-last.ensures in
    next _ _ c.loop-reading.invariant (Whole c.in-Whole.more) read refl

pub returns : goal.returns
returns c = stops _ _ c.loop-reading.invariant c.loop-reading-test.false
