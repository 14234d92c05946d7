pub mod Machine
pub mod Players
pub mod Rehearsal
pub mod OnBits
pub mod Agreement
