pub mod Lively
pub mod Members
