-- The theorems of spectral lines: how large they and their sums are, how far from the exact ones, the sums over pairs and foldings, and the worked lines.
pub mod Shifts
pub mod NextSum
pub mod Bounds
pub mod Lines
pub mod PartAccepted
pub mod LineWaves
pub mod FoldedPlaces
pub mod PairedSums
pub mod Distance
pub mod Pulse
