-- The theorems of lists that a caller lends.
pub mod LentWords
