-- What document 01 says of number columns.
pub mod Text
pub mod Column
pub mod Calls
