-- The width of a wide number, and the sum of the squares of some values.
pub mod WideNumbers
pub mod Squares
