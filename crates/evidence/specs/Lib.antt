pub mod Asked
pub mod Early
pub mod Holders
pub mod Rows
pub mod Serials
