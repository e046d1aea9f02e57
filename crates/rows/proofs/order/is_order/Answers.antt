-- `rows::order::is_order` meets its contract.
use borrow.Author.Tests.{lt-ltb, le-ltb}
use Rattle.rows.specs.Orders.{is_order}
use Rattle.rows.proofs.order.is_order.Goals as goal

pub returns-then-order-gt0 : goal.returns-then-order-gt0
unfolding is_order
returns-then-order-gt0 c = simp (lt-ltb _ _ c.if-order-gt0.true)

pub returns-else-order-gt0 : goal.returns-else-order-gt0
unfolding is_order
returns-else-order-gt0 c = simp (le-ltb _ _ c.if-order-gt0.false)
