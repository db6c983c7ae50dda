-- A reach surveyed from its other end; then that a call on it is answered alike from both.
pub mod Turned
