pub mod Request
pub mod Walked
pub mod Planned
pub mod Met
