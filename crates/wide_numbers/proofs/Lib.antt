-- The laws of sums of squares and their roots.
pub mod SumsOfSquares
mod Wide
