-- Fractions as the code holds them, and their order.
pub mod Parts
