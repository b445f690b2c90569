-- What is proved of the recipe calls.
pub mod Laws
pub mod Saving
pub mod Fetching
