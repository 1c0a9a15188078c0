-- What the program prints, and what its functions promise one another.
pub mod File
pub mod Line
