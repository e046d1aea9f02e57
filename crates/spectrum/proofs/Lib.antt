-- The theorems of the spectrum: an accepted call, where a line ends, its sums over a folded window and how large they are, and the worked edges of the calls.
pub mod Accepted
pub mod LineSums
pub mod EndingHalf
pub mod FoldedLines
pub mod SineAhead
pub mod AcceptedLines
pub mod Worked
