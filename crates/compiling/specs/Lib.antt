pub mod Working
pub mod Blocks
pub mod Spill
pub mod Rewrite
pub mod Emit
pub mod Compile
