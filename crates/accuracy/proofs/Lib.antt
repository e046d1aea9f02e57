-- The theorem of demand 3.
pub mod AcceptedWindows
pub mod Places
pub mod GroupDistance
pub mod AcceptedCalls
pub mod Books
pub mod WorkedRows
pub mod Verdicts
pub mod ObservedRows
pub mod ThreeSecondDistance
pub mod ThreeSeconds
pub mod LatestRows
pub mod Demand3
pub mod BooksExist
pub mod VerdictsGiven
pub mod WorkedLists
pub mod WorkedExample
pub mod WorkedThreeSeconds
