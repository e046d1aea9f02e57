-- The window of a recording, the range of its samples, and what a call that is lent a recording checks of it.
pub mod Window
pub mod Checks
