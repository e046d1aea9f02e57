-- The theorems of the observation of windows back to back.
pub mod WindowCalls
pub mod Observed
pub mod Turns
pub mod Worked
