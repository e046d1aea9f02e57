-- The vocabulary of documents 01 and 02 that the record, the columns and the verdicts share: orders, systems, editions and rows.
pub mod Orders
pub mod Systems
pub mod Editions
pub mod Setups
pub mod Rows
