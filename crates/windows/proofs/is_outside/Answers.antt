-- `windows::is_outside` meets its contract.
use mir.Syntax.{w32}
use mir.ValLaws.{to_z-of_z}
use Rattle.windows.proofs.Range.{out_of_range-ends}
use Rattle.windows.proofs.is_outside.Goals as goal

pub returns : goal.returns
returns c = rw (to_z-of_z w32 c.args.sample c.ranges.sample) (out_of_range-ends c.args.sample)
