-- `panel::work_group` meets its contract: the value is worked from the first line and the others after it.
use Rattle.std.proofs.Common.{◌≡◌, ◌+◌, arith}
use Rattle.spectral_lines.specs.Line.{lines_from}
use Rattle.windows.specs.Window.{window_at}
use Rattle.panel.specs.Panel.{first_line}
use Rattle.panel.proofs.PanelLines.{group_steps, panel-root}
use Rattle.panel.proofs.work_group.Goals as goal

pub returns-clause-value : goal.returns-clause-value
returns-clause-value c =
    let a = c.args in
    let others : c.lines_alone.new.lines ≡ lines_from (first_line a.setup a.order + 1) a.setup.system (window_at a.recording.now a.start) = grind (arith, group_steps) in
    rw (c.root-value.ensures, c.span_sum.ensures, c.panel_span.ensures, others, panel-root a.setup a.order c.requires.known_setup c.requires.known_order a.recording.now a.start c.requires.accepted a.lines.now _ c.requires.room c.requires.first_there)
