pub mod Selecting
pub mod Removing
pub mod Rounds
