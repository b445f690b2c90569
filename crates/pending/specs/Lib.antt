pub mod Standing
pub mod Putting
pub mod Finishing
