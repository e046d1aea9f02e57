-- `column_writing::fill_blanks` meets its contract. The loop's invariant: the first `i` bytes are blanks, the others as they were.
use Rattle.std.proofs.Common.{◌≡◌, ◌++◌, replicate, drop}
use Rattle.columns.specs.Text.{blank}
use Rattle.column_writing.proofs.fill_blanks.Given as goal

abbrev pub invariant-loop-i : goal.invariant-loop-i
invariant-loop-i l = l.buffer ≡ replicate l.i blank ++ drop l.i l.initial.buffer
