-- The theorems of the calls on an observation record.
pub mod SoundRecord
pub mod WithRow
pub mod RecordBooks
pub mod LatestAfter
pub mod RecordAfter
pub mod Worked
