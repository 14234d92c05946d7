pub mod Sweeping
pub mod Laws
pub mod Walking
pub mod Memory
pub mod Example
