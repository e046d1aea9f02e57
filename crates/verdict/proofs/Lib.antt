-- The theorems of the verdicts.
pub mod Worked
pub mod Limits
pub mod Verdicts
pub mod Held
pub mod ClassA
pub mod ClassB
