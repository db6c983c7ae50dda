-- What each public function gives.
pub mod Given
