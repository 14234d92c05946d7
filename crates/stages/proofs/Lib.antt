mod Ending
mod Finishing
mod Growing
mod Memory
mod Pending
mod Turning
