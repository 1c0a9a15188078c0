-- The laws of `fields` that belong to no single function.
pub mod Fields
pub mod Over
pub mod Stores
pub mod Words
