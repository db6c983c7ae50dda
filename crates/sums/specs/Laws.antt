-- Laws of what a loop has added, and of blocks in range.
pub mod Adding
pub mod Depths
