pub mod Bytes
pub mod Standing
pub mod Places
pub mod Faultless
pub mod Forgets
pub mod WellRows
pub mod Back
