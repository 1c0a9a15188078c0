-- The laws and theorems of `evidence` that belong to no single function.
mod Examples
pub mod Columns
pub mod Credits
pub mod Down
pub mod Earliest
pub mod Encoded
pub mod Frames
pub mod Greatest
pub mod Growth
pub mod Layouts
pub mod Lists
pub mod Orders
pub mod Over
pub mod Serials
pub mod Single
pub mod Under
pub mod Wider
