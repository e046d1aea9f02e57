-- The kinds, and the span of lines of each.
pub mod Kinds
