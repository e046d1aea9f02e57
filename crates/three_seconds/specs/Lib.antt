-- The three-second value of an order.
pub mod ThreeSecond
