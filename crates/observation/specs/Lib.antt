-- What the calls on an observation record answer, the record after a list of calls, and its books over the list.
pub mod OrderBook
pub mod Calls
pub mod RecordAfter
pub mod BookCalls
