-- A value against a limit: the limits of an order in units, and the two tests of a verdict.
pub mod Limit
pub mod Tests
