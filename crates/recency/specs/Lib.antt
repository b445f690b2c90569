-- What the functions on the table of recency are said to give.
pub mod Moved
