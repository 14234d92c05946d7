pub mod Effects
pub mod Carry
pub mod Blocks
pub mod Whole
pub mod Coded
pub mod Calls
pub mod Inside
pub mod Example
