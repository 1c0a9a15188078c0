-- The laws of `search` that belong to no single function.
pub mod Bits
pub mod Found
pub mod Moves
pub mod Orders
pub mod Reaches
pub mod Scans
pub mod Shows
