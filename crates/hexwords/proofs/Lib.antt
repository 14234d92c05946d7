mod Words
pub mod Spelling
