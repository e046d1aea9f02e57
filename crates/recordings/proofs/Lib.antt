-- What the proofs of the functions use, and what holds of a reading after each window of an input.
pub mod FirstOf
pub mod NumberOnLine
pub mod Samples
pub mod BlockLaws
pub mod BlockSamples
pub mod WindowAdded
pub mod FirstLine
pub mod WindowLines
pub mod TextLines
pub mod WindowRefusals
pub mod Holds
pub mod WindowHolds
pub mod WorkedInputs
