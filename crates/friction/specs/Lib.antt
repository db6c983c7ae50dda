-- What each public function gives, and how strongly friction can act.
pub mod Given
pub mod Strength
