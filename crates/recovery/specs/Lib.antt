pub mod Step
pub mod Went
pub mod Blocks
