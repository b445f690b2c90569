pub mod Laws
pub mod Reading
pub mod Recent
pub mod Counting
pub mod Caching
