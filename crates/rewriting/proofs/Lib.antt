mod Noting
mod Replacing
mod Spilling
