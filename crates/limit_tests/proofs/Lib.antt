-- The theorems of the limits in units and of the tests against them.
pub mod Limits
pub mod TestLaws
pub mod Worked
