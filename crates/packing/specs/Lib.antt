pub mod Packing
pub mod Inverse
