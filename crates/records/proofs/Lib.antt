-- The theorems of the observation record.
pub mod NoneAbove
pub mod SoundFirst
pub mod SoundParts
pub mod ZerosToCome
pub mod WorkedRecords
pub mod WorkedSoundness
