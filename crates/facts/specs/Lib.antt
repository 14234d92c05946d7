pub mod Flow
pub mod Shapes
pub mod Solving
