-- What the limits say, and that each public statement leaves one answer.
pub mod Fits
pub mod Unique
