mod Showing
mod Emptying
