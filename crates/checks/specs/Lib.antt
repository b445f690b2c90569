pub mod Keys
pub mod Chain
pub mod Fields
pub mod Marks
pub mod Passed
