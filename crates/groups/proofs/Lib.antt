-- The theorems of groups: what an accepted call tells, the editions, and the worked edges of the calls.
pub mod GroupSum
pub mod GroupEditions
pub mod Worked
