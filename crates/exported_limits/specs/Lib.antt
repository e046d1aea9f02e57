-- What the exported call for a limit answers, over the definitions of the library that it passes on to.
pub mod LimitCall
