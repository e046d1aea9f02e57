-- The limits of each class, and what the call for a limit answers.
pub mod Limit
pub mod Call
