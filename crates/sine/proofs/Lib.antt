-- The theorems of the exact sine and of the table.
pub mod Turn
pub mod ExactSine
pub mod Wave
pub mod Symmetry
pub mod Circle
mod Written
