-- The row of a window's harmonic groups with little scratch.
pub mod Panel
