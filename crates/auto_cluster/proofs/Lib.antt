pub mod Agreeing
pub mod Alike
pub mod Found
mod LinkLemmas
mod Members
mod Named
mod Places
mod Reaches
mod Referring
mod Under
