-- A line that is worked by itself.
pub mod Quarter
