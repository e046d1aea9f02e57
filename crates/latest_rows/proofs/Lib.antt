-- The theorems of the latest rows.
pub mod Latest
