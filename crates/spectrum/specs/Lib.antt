-- What the call `spectrum` answers, where a line's sums are found in a folded window, and what the private functions are handed.
pub mod Spectrum
pub mod LinePlaces
pub mod Prepared
