-- The rules of a reach of the first order over a stepped bed, in the order of the scope document; then what follows from them.
pub mod Reach
pub mod Step
pub mod Refusals
pub mod Lent
pub mod AtRest
pub mod Numbers
