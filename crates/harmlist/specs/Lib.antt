-- What harmlist's reading of its input answers.
pub mod Input
