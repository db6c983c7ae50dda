-- What the public function gives; then what the private functions hand to one another.
pub mod Root
pub mod Turns
