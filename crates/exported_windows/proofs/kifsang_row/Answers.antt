-- `exported_windows::kifsang_row` meets its contract: the caller has room for the library's 40 values where nothing is refused.
use mathlib.Core.Path.{◌∙◌}
use Rattle.std.specs.Prelude.{Ok}
use Rattle.rows.specs.Orders.{order_count}
use Rattle.groups.proofs.GroupSum.{group_values-length}
use Rattle.exported_windows.specs.GroupCalls.{row_call_exit}
use Rattle.exported_answers.proofs.Handed.{handed_over_row}
use Rattle.exported_windows.proofs.kifsang_row.Goals as goal

pub returns-in-Ok-clause-values_after : goal.returns-in-Ok-clause-values_after
unfolding row_call_exit
returns-in-Ok-clause-values_after c =
    c.hand_over_row.ensures.values_after
    ∙ handed_over_row (Ok c.in-Ok.row.values) _ order_count _ _ c.in-Ok.ensures.refusal c.in-Ok.ensures.accepted (group_values-length _ _ _) c.in-Ok.ensures.room
