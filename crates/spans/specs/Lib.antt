-- The weights of a span's lines, the sums over them, and the checks of lines.
pub mod Spans
pub mod Checks
