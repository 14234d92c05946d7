mod Digits
mod Items
mod Worked
