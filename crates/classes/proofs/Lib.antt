-- The theorems of the letters.
pub mod ClassLetters
