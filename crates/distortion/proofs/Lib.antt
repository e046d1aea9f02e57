-- The laws of group distortion, and worked distortions.
pub mod RowDistortion
pub mod Worked
