-- `groups::row::group_row` meets its contract. The loop's invariant: the values of the orders before this one are there.
use Rattle.std.proofs.Common.{◌≡◌, ℕ, ◌+◌, ◌<◌, get_or, length}
use Rattle.rows.specs.Orders.{order_count}
use Rattle.groups.specs.Group.{group_value}
use Rattle.groups.proofs.row.group_row.Given as goal

abbrev pub invariant-loop-i : goal.invariant-loop-i
invariant-loop-i l = (length l.values ≡ order_count) × ((k : ℕ) → k < l.i → get_or l.values k 0 ≡ group_value l.kind l.setup (k + 1) l.lines)
