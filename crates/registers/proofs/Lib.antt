pub mod RunBits
pub mod Laws
pub mod Bounds
mod Ranges
