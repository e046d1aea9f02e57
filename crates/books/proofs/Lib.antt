-- The theorems of a book.
pub mod Smoothed
mod Worked
