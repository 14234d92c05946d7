mod Coding
mod Showing
