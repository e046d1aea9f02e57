-- The laws of the kinds' spans.
pub mod Bounds
pub mod Worked
