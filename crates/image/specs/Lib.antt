pub mod Front
pub mod Walked
