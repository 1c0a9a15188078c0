pub mod Levels
pub mod Order
pub mod Scan
pub mod Tops
