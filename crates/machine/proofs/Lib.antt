pub mod Staged
pub mod Effects
