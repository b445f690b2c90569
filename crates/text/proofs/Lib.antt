-- Laws of rows of characters, of the marks in them, and of a number that is read; the worked fields.
pub mod Laws
pub mod Reading
pub mod Example
pub mod Words
