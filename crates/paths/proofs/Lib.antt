pub mod Marks
pub mod Facts
pub mod Files
pub mod Outcomes
