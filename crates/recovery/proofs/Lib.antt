-- When a store is left out, how recovery's steps come together, which data blocks they move, and a step as bytes.
pub mod Moving
pub mod Passed
pub mod Skipped
pub mod Spelling
pub mod Turns
