-- Document 02, ask 8: the record, where recipes stand, the three calls, and what is claimed of every list of them.
pub mod Record
pub mod Shelf
pub mod Calls
pub mod Uses
pub mod Kept
