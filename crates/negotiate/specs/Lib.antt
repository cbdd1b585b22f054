pub mod Laws
pub mod Grouped
pub mod Parties
