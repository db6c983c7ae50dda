-- What the proofs of the digits share, in the order in which they build on one another.
pub mod WholeRoot
pub mod Turns
pub mod Places
pub mod Unique
