-- `exported_lines::panel_call::kifsang_panel_row` meets its contract: the caller has room for the library's 40 values where nothing is refused.
use mathlib.Core.Path.{◌∙◌}
use Rattle.std.specs.Prelude.{Ok}
use Rattle.rows.specs.Orders.{order_count}
use Rattle.groups.proofs.GroupSum.{group_values-length}
use Rattle.exported_answers.proofs.Handed.{handed_over_row}
use Rattle.exported_lines.specs.PanelCall.{panel_call_values_exit}
use Rattle.exported_lines.proofs.panel_call.kifsang_panel_row.Goals as goal

pub returns-in-Ok-clause-values_after : goal.returns-in-Ok-clause-values_after
unfolding panel_call_values_exit
returns-in-Ok-clause-values_after c =
    c.hand_over_row.ensures.values_after
    ∙ handed_over_row (Ok c.in-Ok.row.values) _ order_count _ _ c.in-Ok.ensures.refusal c.in-Ok.ensures.accepted (group_values-length _ _ _) c.in-Ok.ensures.room
