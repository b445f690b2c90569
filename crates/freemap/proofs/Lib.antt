-- Laws of words of bits, of maps, and of searches by a map.
pub mod Count
pub mod Machine
pub mod Maps
pub mod Search
pub mod Taking
pub mod Words
