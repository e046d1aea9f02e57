-- What the proofs about an exported verdict use.
pub mod VerdictCases
