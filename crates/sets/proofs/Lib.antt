pub mod Members
pub mod Orders
pub mod Rises
pub mod Sizes
pub mod Words
mod Choosing
