-- The code's sides and fluxes as the rules', and what the public function gives; then what the private functions hand to one another.
pub mod Sides
pub mod Given
pub mod Waves
