-- The laws of a row of checks.
pub mod Answers
pub mod Appended
pub mod Results
