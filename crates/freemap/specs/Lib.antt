pub mod Bits
pub mod Taken
