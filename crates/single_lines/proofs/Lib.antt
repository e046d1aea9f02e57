-- The theorems of a line by itself.
pub mod QuarterSums
