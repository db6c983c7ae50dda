-- What the proofs of a face's functions share; what the limits say, and that the public statement leaves one answer.
pub mod Choice
pub mod Made
pub mod Waves
pub mod Fits
pub mod Unique
