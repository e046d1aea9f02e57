-- The latest rows of a record.
pub mod Latest
