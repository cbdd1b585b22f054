pub mod Boundaries
pub mod Numbers
pub mod Owns
pub mod Pieces
pub mod Readings
