-- The laws and theorems of `converter` that belong to no single function. A reader starts at `Theorems`.
pub mod Conversion
mod Examples
pub mod OldRows
pub mod Theorems
