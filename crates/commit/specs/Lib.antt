pub mod Making
pub mod Committed
