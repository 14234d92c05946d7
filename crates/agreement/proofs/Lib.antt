pub mod Induction
pub mod Places
