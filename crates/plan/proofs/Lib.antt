-- Laws behind the functions' proofs.
pub mod Request
pub mod Seen
pub mod Rows
pub mod Start
pub mod Housing
pub mod Room
pub mod Released
pub mod Bounds
pub mod Order
pub mod Count
pub mod Meeting
