-- What follows from the rules of a reach over a stepped bed.
pub mod Lengths
pub mod Within
pub mod Agree
pub mod Positive
pub mod Balance
pub mod Rest
pub mod Dried
pub mod Speeds
pub mod Order
pub mod Accepted
pub mod EndVolumes
pub mod StillChecks
