-- `column_writing::write_digits` meets its contract. The invariant of both loops: the digits from `at` on, after those of the rest, are the number's. The measure is the rest.
use Rattle.columns.proofs.Writings.{DigitsWritten}
use Rattle.column_writing.proofs.write_digits.Given as goal

abbrev pub invariant-loop-rest : goal.invariant-loop-rest
invariant-loop-rest l = DigitsWritten l.initial.buffer l.number l.rest l.at l.buffer

abbrev pub decreases-loop-rest : goal.decreases-loop-rest
decreases-loop-rest l = l.rest

abbrev pub invariant-loop-rest-2 : goal.invariant-loop-rest-2
invariant-loop-rest-2 l = DigitsWritten l.fn.buffer l.number l.rest l.at l.buffer

abbrev pub decreases-loop-rest-2 : goal.decreases-loop-rest-2
decreases-loop-rest-2 l = l.rest
