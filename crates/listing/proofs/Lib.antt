-- A text put after the text at the front of a buffer, the lengths of the listing and of the line for a refusal, and worked listings.
pub mod Puts
pub mod Lengths
pub mod RefusalLine
pub mod WorkedListing
