pub mod Meeting
pub mod Asking
pub mod Putting
pub mod Finishing
