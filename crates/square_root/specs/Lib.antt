-- The whole part of the square root.
pub mod Root
