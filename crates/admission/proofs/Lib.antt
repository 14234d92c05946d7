pub mod Ways
pub mod Judging
