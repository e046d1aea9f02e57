-- `panel::panel_row` meets its contract. The loop's invariant: the buffer holds the first line of the next order's group, and the values of the orders before this one are there.
use Rattle.std.proofs.Common.{◌≡◌, ℕ, ◌+◌, ◌<◌, get_or, length}
use Rattle.rows.specs.Orders.{order_count}
use Rattle.windows.specs.Window.{window_at}
use Rattle.spectral_lines.specs.Line.{line_of, lines_of}
use Rattle.kinds.specs.declared.Kind.TheVariants.{HarmonicGroup}
use Rattle.spans.specs.Spans.{line_at}
use Rattle.groups.specs.Group.{group_value}
use Rattle.panel.specs.Panel.{panel_line_count, first_line}
use Rattle.panel.proofs.panel_row.Given as goal

abbrev pub invariant-loop-i : goal.invariant-loop-i
invariant-loop-i l =
    (length l.lines ≡ panel_line_count) × (line_at l.lines 0 ≡ line_of (window_at l.recording l.start) (first_line l.setup (l.i + 1)))
    × (length l.values ≡ order_count)
    × ((k : ℕ) → k < l.i → get_or l.values k 0 ≡ group_value HarmonicGroup l.setup (k + 1) (lines_of (window_at l.recording l.start)))
