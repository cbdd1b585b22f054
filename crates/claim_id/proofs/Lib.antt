pub mod Numerals
pub mod OneText
pub mod Pieces
pub mod Secrets
pub mod Ways
