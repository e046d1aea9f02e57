-- A window folded before anything is multiplied: how it is halved, and what the call `fold_window` leaves.
pub mod Halving
pub mod Folded
