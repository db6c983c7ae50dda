-- What follows from the rules of finishing and from what the public function says.
pub mod Sizes
pub mod Depths
pub mod Ends
pub mod Workable
pub mod OneFinish
