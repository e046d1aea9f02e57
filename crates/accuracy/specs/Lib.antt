-- Demand 3 of the scope: how near the reported values are to the exact ones, and what a verdict claims of the exact ones.
pub mod Distance
pub mod ExactBook
pub mod CallList
pub mod WorkedRows
pub mod LatestRows
pub mod Rule
pub mod Claim
