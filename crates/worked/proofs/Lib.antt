pub mod Worked
pub mod Generated
