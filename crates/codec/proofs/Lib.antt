-- Shifts by k, an entry's bytes put field by field, a single entry's refusals.
pub mod Laws
