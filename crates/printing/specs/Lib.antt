pub mod Texts
pub mod Calls
