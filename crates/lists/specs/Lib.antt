-- Lists that a caller lends.
pub mod LentWords
