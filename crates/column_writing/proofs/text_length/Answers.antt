use Rattle.std.proofs.Common.{arith}
use Rattle.columns.proofs.Decimal.{length-le}
use Rattle.column_writing.proofs.text_length.Goals as goal

pub overflow_add-result : goal.overflow_add-result
overflow_add-result c = let few = length-le 19 c.unsigned_abs.result (omega arith) in
    omega (arith, few)
