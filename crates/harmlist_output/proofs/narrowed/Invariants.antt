-- `harmlist_output::narrowed` meets its contract. The loop's invariant: the first `i` values are those of the argument.
use Rattle.std.proofs.Common.{◌≡◌, ℕ, ◌<◌, length, get_or}
use Rattle.rows.specs.Orders.{order_count}
use Rattle.harmlist_output.proofs.narrowed.Given as goal

abbrev pub invariant-loop-i : goal.invariant-loop-i
invariant-loop-i l = (length l.narrow ≡ order_count) × ((k : ℕ) → k < l.i → get_or l.narrow k 0 ≡ get_or l.values k 0)
