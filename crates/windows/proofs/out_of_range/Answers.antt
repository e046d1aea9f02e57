-- `windows::out_of_range` meets its contract.
use mir.Syntax.{w64}
use mir.ValLaws.{to_z-of_z}
use Rattle.windows.proofs.Range.{out_of_range-ends}
use Rattle.windows.proofs.out_of_range.Goals as goal

pub returns : goal.returns
returns c = rw (to_z-of_z w64 c.args.number c.ranges.number) (out_of_range-ends c.args.number)
