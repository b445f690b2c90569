-- What is proved of the recipes' definitions.
pub mod Lists
pub mod Record
pub mod Fewest
pub mod Rows
pub mod Refusals
pub mod Kept
