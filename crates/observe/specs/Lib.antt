-- From the samples of windows to the record after them.
pub mod Observe
pub mod Calls
