pub mod Sums
pub mod Searches
