-- The laws and theorems of `sets` that belong to no single function.
mod Examples
pub mod Added
pub mod Histories
pub mod Masks
pub mod Members
pub mod Single
pub mod Wider
pub mod Words
