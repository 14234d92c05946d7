pub mod Alike
pub mod Costs
pub mod Easing
pub mod Orders
