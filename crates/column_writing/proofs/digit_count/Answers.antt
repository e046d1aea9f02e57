use Rattle.std.proofs.Common.{arith}
use Rattle.columns.proofs.Writings.{counted_more, counted_all, limit_fits}
use Rattle.column_writing.proofs.digit_count.Goals as goal

pub overflow_mul-limit : goal.overflow_mul-limit
overflow_mul-limit c = record { fits = limit_fits c.loop-limit.invariant (omega arith) }

pub loop-limit-preserved : goal.loop-limit-preserved
loop-limit-preserved c = counted_more c.loop-limit.invariant (omega arith)

pub returns : goal.returns
returns c = counted_all c.loop-limit.invariant (omega arith)
