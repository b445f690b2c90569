-- Laws behind the functions' proofs.
pub mod Asking
pub mod Sifting
pub mod Prepared
pub mod Clearing
pub mod Elsewhere
pub mod Whole
