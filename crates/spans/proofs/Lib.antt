-- The theorems of the weights of spans, and of how large the sums over them are.
pub mod Weights
pub mod Totals
pub mod Cut
pub mod SumBounds
pub mod Worked
