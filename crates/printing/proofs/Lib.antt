mod Lists
mod Parts
mod Worked
