-- What the public call says, and why what was worked is that.
pub mod Gives
pub mod Answered
