-- What the public calls say, how large the numbers are that they add, and what follows of the loops that add them.
pub mod Gives
pub mod Answered
pub mod Ranges
pub mod Laws
