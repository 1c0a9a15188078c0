-- The laws and theorems of `forms` that belong to no single function.
pub mod Columns
mod Examples
pub mod Faults
pub mod FrameTrip
pub mod Frames
pub mod Groups
pub mod Marks
pub mod Meaning
pub mod Order
pub mod Rosters
pub mod RoundTrip
pub mod Single
pub mod Told
