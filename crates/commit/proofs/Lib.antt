-- Laws behind the functions' proofs.
pub mod Steps
pub mod Places
pub mod Loops
pub mod Whole
