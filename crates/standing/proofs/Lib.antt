pub mod Lines
pub mod Parts
pub mod Round
pub mod Sources
pub mod Slots
pub mod Keeping
