-- The classes, and the letters by which the calls name them.
pub mod Letters
