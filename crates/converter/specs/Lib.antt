-- The converter of old images: its definition, and its rows of the table of numbers.
pub mod Answers
pub mod Convert
pub mod Old
pub mod Table
