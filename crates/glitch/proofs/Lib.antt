-- The theorems of one bad sample.
pub mod NormMost
pub mod Lines
pub mod Groups
pub mod Smoothed
pub mod Glitch
pub mod Worked
