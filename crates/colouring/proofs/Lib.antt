pub mod Counts
pub mod Suffices
pub mod Choosing
pub mod Selecting
pub mod Removing
pub mod Sticking
pub mod Rounds
pub mod Example
