pub mod Splits
pub mod Orders
pub mod Nodes
pub mod Maps
pub mod Firsts
