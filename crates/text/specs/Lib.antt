pub mod Characters
pub mod Decimal
pub mod Lay
pub mod Page
pub mod Puts
