pub mod Facts
pub mod Merges
pub mod Pairs
