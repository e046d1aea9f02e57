-- One bad sample: what a converter's glitch can do (document 02, card 14).
pub mod Windows
pub mod Claim
