pub mod Facts
pub mod Graphs
