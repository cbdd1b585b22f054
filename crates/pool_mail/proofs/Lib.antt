pub mod RunNames
pub mod OwnClaims
