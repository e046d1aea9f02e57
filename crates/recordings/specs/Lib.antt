-- What the lines of an input hold and where they are refused, and what the calls answer that read it a block at a time.
pub mod TextLines
pub mod InputRefusal
pub mod Windows
pub mod Blocks
pub mod Steps
