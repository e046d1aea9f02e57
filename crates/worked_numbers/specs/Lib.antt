-- The marked worked numbers of document 01, and the pulse's under A1.
pub mod Cases
