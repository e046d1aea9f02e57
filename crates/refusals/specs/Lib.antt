-- What document 01 says of refusals: their numbers, and that the first fault in a row of its table decides.
pub mod Numbers
pub mod Answers
