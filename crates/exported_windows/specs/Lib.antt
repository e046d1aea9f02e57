-- What the exported calls of groups, of a row and of its distortion answer, over the definitions of the library that they pass on to.
pub mod GroupCalls
