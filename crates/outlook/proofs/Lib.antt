pub mod Laws
pub mod Many
