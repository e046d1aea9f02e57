-- The theorems of demand 3 and of one bad sample for the exported calls.
pub mod WordsFollow
pub mod CalledGroups
pub mod ExportedDemand3
pub mod ExportedGlitch
pub mod WorkedCalls
pub mod WorkedGlitch
