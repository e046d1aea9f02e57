-- The theorems of the limits.
pub mod Limits
pub mod Table
pub mod ClassA
pub mod ClassB
pub mod Worked
