-- What the proofs of several exported functions use.
pub mod Handed
