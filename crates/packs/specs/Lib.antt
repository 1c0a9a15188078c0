-- The definitions of pack sheets: what a reader has to believe.
pub mod Answers
pub mod Number
pub mod Question
pub mod Sheet
pub mod Steps
pub mod Table
pub mod Writer
