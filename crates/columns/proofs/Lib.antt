-- The theorems of number columns, and the laws that the proofs of the functions of `column_reading` and `column_writing` rest on.
pub mod Decimal
pub mod Column
pub mod Readings
pub mod NumberText
pub mod Writings
pub mod WorkedColumns
