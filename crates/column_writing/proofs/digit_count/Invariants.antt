-- `column_writing::digit_count` meets its contract. The loop's invariant: the digits counted so far are the number's. The measure is how far the number reaches above the limit.
use Rattle.std.proofs.Common.{◌+◌, ◌-◌}
use Rattle.columns.proofs.Writings.{Counted}
use Rattle.column_writing.proofs.digit_count.Given as goal

abbrev pub invariant-loop-limit : goal.invariant-loop-limit
invariant-loop-limit l = Counted l.number l.count l.limit

abbrev pub decreases-loop-limit : goal.decreases-loop-limit
decreases-loop-limit l = l.number + 1 - l.limit
