pub mod Masks
pub mod Pressing
pub mod Drawing
