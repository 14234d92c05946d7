pub mod Joining
pub mod Later
