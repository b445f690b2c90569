pub mod Examined
pub mod Moved
