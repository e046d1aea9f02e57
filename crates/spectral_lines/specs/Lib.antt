-- Spectral lines: document 01's lines, what a call for a part of them answers, the exact sums behind them, and the pairs and foldings by which they are worked.
pub mod Line
pub mod Calls
pub mod Exact
pub mod Pairs
pub mod Folding
