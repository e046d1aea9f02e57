-- An order is 1..40.
use mathlib.Core.Path.{◌≡◌}
use mathlib.Core.Bool.{true}
use Prim.Native.Nat.{ℕ, ◌+◌, ◌≤◌, ◌<◌}
use native.Mathlib.Omega.{arith}
use borrow.Author.Tests.{lt-ltb, le-leb}
use Rattle.algebra.proofs.Tests.{leb-range}
use Rattle.rows.specs.Orders.{is_order, order_count}

pub order-bounds : (h : ℕ) → is_order h ≡ true → (1 ≤ h) × (h ≤ order_count)
unfolding is_order
order-bounds h e = leb-range 1 h order_count e

-- the order at a place of a row
pub order-of-place : (i : ℕ) → i < order_count → is_order (i + 1) ≡ true
unfolding is_order
order-of-place i inside = rw (lt-ltb 0 (i + 1) (omega arith), le-leb (i + 1) order_count (omega arith))
