pub mod Model
pub mod Runs
pub mod Description
