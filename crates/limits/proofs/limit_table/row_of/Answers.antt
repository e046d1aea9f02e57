-- `limits::limit_table::row_of` meets its contract: the row at the place of the order.
use mathlib.Core.Path.{sym, ◌∙◌}
use Rattle.limits.proofs.Table.{class_a-at}
use Rattle.limits.proofs.limit_table.row_of.Goals as goal

pub returns-then-has_limit : goal.returns-then-has_limit
returns-then-has_limit c = let has-limit = sym c.has_limit.ensures ∙ c.if-has_limit.true in
    rw (has-limit, class_a-at c.args.order has-limit)
