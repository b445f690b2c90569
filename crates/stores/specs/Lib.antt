pub mod Did
pub mod Told
