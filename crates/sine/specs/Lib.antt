-- The exact sine of document 01 and the whole numbers that stand for it.
pub mod Turn
pub mod ExactSine
pub mod Wave
