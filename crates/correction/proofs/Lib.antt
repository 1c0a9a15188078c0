-- The laws and theorems of `correction` that belong to no single function.
pub mod Counters
mod Examples
pub mod Halves
pub mod InOrder
pub mod Meaning
pub mod Middles
pub mod Places
pub mod Ranges
pub mod Ranks
pub mod Signs
pub mod Steps
pub mod Theorems
pub mod Told
