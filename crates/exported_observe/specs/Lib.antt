-- What the exported call of a recording's windows answers, over the definitions of the library that it passes on to.
pub mod ObserveCall
