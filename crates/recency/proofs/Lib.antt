-- Laws of marks, of the table's moves and of the table at start.
pub mod Front
pub mod Marks
pub mod Moving
pub mod Packing
pub mod Start
