-- `harmlist::read_input` meets its contract.
use Rattle.std.proofs.Common.{refl}
use Rattle.std.proofs.lemmas.Result.{IfOk-weaker}
use Rattle.harmlist.specs.declared.Input.TheVariants.{Ended, Whole}
use Rattle.harmlist.specs.Input.{LineRead, BlocksRead, TextRead}
use Rattle.harmlist.proofs.Blocks.{line_ends, text_ends}
use Rattle.harmlist.proofs.read_input.Goals as goal

pub returns-in-Ended : goal.returns-in-Ended
returns-in-Ended c =
    let line : LineRead (Ended c.in-Ended.reading) = rw c.in-Ended.is at c.in_ok-reading.ensures in
    line_ends (Ended c.in-Ended.reading) line refl

pub returns-in-Whole : goal.returns-in-Whole
returns-in-Whole c =
    let line : LineRead (Whole c.in-Whole.first) = rw c.in-Whole.is at c.in_ok-reading.ensures in
    IfOk-weaker c.read_blocks.result (BlocksRead c.in-Whole.first) TextRead
    (λ input read. text_ends (Whole c.in-Whole.first) line input refl read) c.read_blocks.ensures
