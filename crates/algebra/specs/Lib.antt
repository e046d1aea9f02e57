-- The definitions of the shared mathematics. Their theorems stand in proofs/.
pub mod Integers
pub mod Rounding
pub mod Fraction
pub mod LowestTerms
pub mod Sums
pub mod Weighted
pub mod Lists
pub mod Largest
pub mod Computed
