pub mod Listing
pub mod Log
pub mod Played
pub mod Refusal
pub mod Table
