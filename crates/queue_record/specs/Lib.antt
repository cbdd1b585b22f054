pub mod Words
pub mod Keys
pub mod Entries
pub mod Texts
pub mod ReadSoFar
pub mod ReadSoFarCode
pub mod Records
pub mod Logs
