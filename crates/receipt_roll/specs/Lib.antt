pub mod Growth
pub mod Steps
pub mod Values
pub mod Scribe
pub mod Roll
pub mod Receipt
pub mod Lending
