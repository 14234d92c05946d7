pub mod Telling
pub mod Showing
pub mod Table
pub mod Generated
