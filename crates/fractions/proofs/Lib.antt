-- The theorems of fractions by their parts.
pub mod Parts
mod Cross
