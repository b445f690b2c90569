-- What is proved of four blocks in a row.
pub mod Laws
