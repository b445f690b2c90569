pub mod Place
pub mod Cached
