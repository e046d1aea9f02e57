-- The numbers of the kinds, and the check of one.
pub mod Kinds
