-- A record's bytes put part after part, and the tests of a name and of a block.
pub mod Laws
