-- The laws of parts and of a record's words.
pub mod Parts
pub mod Halves
pub mod Words
pub mod Handed
