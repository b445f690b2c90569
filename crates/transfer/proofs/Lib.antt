-- What load and evict pass, what they find, and how their stores come together on both media.
pub mod Shared
pub mod Found
pub mod Moving
