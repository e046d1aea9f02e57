-- The laws of the vocabulary.
pub mod Orders
pub mod Systems
pub mod Editions
pub mod Setups
pub mod Rows
