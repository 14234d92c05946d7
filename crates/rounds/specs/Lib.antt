pub mod Liveness
pub mod Interference
pub mod Pressure
pub mod Coalescing
pub mod Simplify
pub mod Select
pub mod Round
