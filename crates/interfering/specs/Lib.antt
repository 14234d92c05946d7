pub mod Living
pub mod Edges
