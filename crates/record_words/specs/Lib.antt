-- An observation record as words: what the words of its parts are, and which record some words hold.
pub mod Parts
pub mod Halves
pub mod Words
