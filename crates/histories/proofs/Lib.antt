pub mod Ending
pub mod Growing
pub mod Turning
pub mod Playing
pub mod Merely
