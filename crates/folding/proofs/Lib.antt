-- The theorems of the folding: a list that is folded from both ends, the sums over a folded window and how large its numbers are, what the call leaves, and the call's worked edges.
mod Partly
pub mod HalvedSums
pub mod FoldedBounds
pub mod FoldedList
pub mod Worked
pub mod ToHalve
