pub mod Pages
pub mod Temporaries
pub mod Orders
