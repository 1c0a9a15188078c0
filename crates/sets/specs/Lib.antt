pub mod History
pub mod Sets
pub mod Ticks
