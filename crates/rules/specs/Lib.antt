pub mod Answering
pub mod Clock
pub mod Delivery
pub mod Describe
pub mod Record
pub mod Rules
pub mod Steps
pub mod Which
