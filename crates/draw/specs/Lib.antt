-- What the functions of the crate give.
pub mod Numbers
pub mod Sums
pub mod Tables
pub mod Cell
