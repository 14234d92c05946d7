pub mod Assembling
pub mod Rounds
pub mod Whole
