-- What harmlist writes for an input, what is written at the end of a reading, and that the two are one.
pub mod Output
pub mod Ending
pub mod Follows
