-- What the laws speak of, where contracts and other definitions cite it.
pub mod Sizes
pub mod Summing
pub mod Blocks
pub mod Agree
pub mod Rest
pub mod Chain
pub mod StateAndBed
