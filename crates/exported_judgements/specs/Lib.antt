-- What the exported calls of verdicts and three-second values answer, over the definitions of the library that they pass on to.
pub mod VerdictCall
pub mod ThreeSecondCall
