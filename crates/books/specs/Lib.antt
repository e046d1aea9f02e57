-- The book of one order, over the numbers that it is fed, and the smoothing of the reported one.
pub mod Book
pub mod Smoothing
