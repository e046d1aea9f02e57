-- Groups of lines: their values, the rows of them, and the exact groups.
pub mod Exact
pub mod Group
