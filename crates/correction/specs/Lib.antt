-- The definitions of a correction: what a reader has to believe.
pub mod Answers
pub mod Correct
pub mod Counter
pub mod Good
pub mod Middle
pub mod Number
pub mod Table
