-- What the functions of a stage hand to one another: rows, and the ranges that keep every product small; what they answer; and what the
-- public function says. Laws has what follows.
pub mod Rows
pub mod Ranges
pub mod Says
pub mod Stored
pub mod Worked
pub mod Laws
