pub mod Living
pub mod Starting
pub mod Edges
