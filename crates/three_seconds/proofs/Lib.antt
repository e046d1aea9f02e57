-- The laws of the three-second value, and worked figures and answers.
pub mod ThreeSecond
pub mod Worked
