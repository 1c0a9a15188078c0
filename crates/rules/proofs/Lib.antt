-- The laws of `rules` that belong to no single function.
pub mod AfterFrame
pub mod Answering
pub mod AtRest
pub mod Clock
pub mod Every
pub mod Firing
pub mod RecordTrip
pub mod Records
pub mod Sent
pub mod Settlings
pub mod Single
pub mod Which
pub mod Wider
pub mod Within
