pub mod Laws
pub mod Faults
