-- What follows from the definitions.
pub mod Some
pub mod Scan
pub mod Filling
pub mod Cells
