pub mod Lightness
