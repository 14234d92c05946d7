pub mod Lists
pub mod Holding
