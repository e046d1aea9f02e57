-- The theorems of a window: its samples, their range, and what an accepted call tells of it.
pub mod Range
pub mod Samples
pub mod Accepted
pub mod Worked
pub mod ShortWindow
