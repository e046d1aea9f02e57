-- Group distortion of a row.
pub mod Distortion
