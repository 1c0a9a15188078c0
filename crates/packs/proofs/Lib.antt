-- The laws and theorems of `packs` that belong to no single function.
pub mod Ascending
pub mod Ended
mod Examples
pub mod Meaning
pub mod Order
pub mod Puts
pub mod RoundTrip
pub mod Runs
pub mod Single
pub mod Theorems
pub mod Told
pub mod Written
