-- What follows of the numbers of a reach.
pub mod DryList
pub mod Refusals
pub mod Checks
