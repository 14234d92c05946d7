pub mod Rising
pub mod Sets
pub mod Splitting
pub mod Walks
pub mod Words
