-- Lists as tables: some entry with a property, rows made from an index, columns of numbers, cells and pools and back, and what a loop has
-- written so far.
pub mod Some
pub mod Rows
pub mod Filling
pub mod Columns
pub mod Reversed
pub mod Cells
pub mod Pools
