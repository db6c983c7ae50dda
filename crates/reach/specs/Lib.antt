-- What the code is told of a reach and of a call, as the rules' records; and the ranges of beds and cells in work.
pub mod Refusals
pub mod Places
pub mod Told
pub mod Gives
pub mod Ranges
pub mod Size
pub mod Laws
