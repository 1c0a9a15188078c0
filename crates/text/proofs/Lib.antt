-- The laws of `text` that belong to no single function.
mod Examples
pub mod Decimals
pub mod Lays
pub mod Pages
pub mod Puts
pub mod Readings
