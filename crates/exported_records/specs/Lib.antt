-- What the exported calls of a record answer, over the definitions of the library that they pass on to.
pub mod RecordCalls
