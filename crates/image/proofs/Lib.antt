-- How stores that may fail come together, and that the front of a file is enough.
pub mod Front
pub mod Repairing
pub mod Walking
