-- The observation record of document 01: its soundness, and what a verdict reads of an order.
pub mod Soundness
pub mod Average
