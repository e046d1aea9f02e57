-- Demand 3 of the scope, and what one bad sample can do, for the calls of include/kifsang.h, whose record is 423 words that the caller keeps.
pub mod Calls
pub mod Claim
pub mod Glitch
