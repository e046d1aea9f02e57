-- What document 01 says of the listing and of the line for a refusal.
pub mod Listing
pub mod RefusalLine
