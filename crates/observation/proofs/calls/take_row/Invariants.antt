-- `observation::calls::take_row` meets its contract. The loop's invariant: the books of the first `i` orders have taken their step.
use Rattle.observation.proofs.WithRow.{Stepped}
use Rattle.observation.proofs.calls.take_row.Given as goal

abbrev pub invariant-loop-i : goal.invariant-loop-i
invariant-loop-i l = Stepped l.initial.observation l.row l.i l.observation
