-- The theorems of the square root.
pub mod RootLaws
mod Newton
