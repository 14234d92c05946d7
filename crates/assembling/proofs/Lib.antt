pub mod Lively
pub mod Apart
pub mod Rounds
pub mod Whole
