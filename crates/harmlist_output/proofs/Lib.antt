-- The laws of the end of a reading, the theorem that an input read in blocks gives what harmlist writes for it, and what that is for a recording.
pub mod EndingLaws
pub mod Values
pub mod Output
pub mod Follows
pub mod RecordingText
pub mod WorkedOutput
