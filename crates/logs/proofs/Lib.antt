-- The laws and theorems of `logs` that belong to no single function.
mod Examples
pub mod Lines
pub mod LogTrip
pub mod Logs
pub mod Meaning
pub mod Playing
pub mod Single
