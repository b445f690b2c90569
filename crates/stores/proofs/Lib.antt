-- How runs made one after the other under one credit come together, and what each kind of run asks and does.
pub mod Laws
pub mod Tells
