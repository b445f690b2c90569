pub mod ToldBlocks
