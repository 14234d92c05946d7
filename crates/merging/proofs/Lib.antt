pub mod Contracting
pub mod Merging
pub mod Rounds
pub mod First
