-- How the rules in force differ from those before.
pub mod E2
pub mod E13
pub mod Shift
pub mod E7
pub mod Parts
pub mod E6
pub mod E4
pub mod E3
