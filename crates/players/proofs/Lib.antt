pub mod Numbers
pub mod Effects
pub mod Plays
