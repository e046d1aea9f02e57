-- The theorems of the shared mathematics.
pub mod Integer
pub mod Signed
pub mod Tests
pub mod Ring
pub mod SumTo
pub mod Weighted
pub mod Norm
pub mod Lists
pub mod Filling
pub mod Largest
pub mod Computed
pub mod Rounding
pub mod Fraction
pub mod LowestTerms
pub mod Signed64
