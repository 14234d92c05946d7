pub mod Rehearsing
