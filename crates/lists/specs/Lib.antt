pub mod Padding
pub mod Fields
