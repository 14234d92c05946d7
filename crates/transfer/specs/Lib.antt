pub mod Inside
pub mod Paired
pub mod Transfer
pub mod Settling
pub mod Sharing
