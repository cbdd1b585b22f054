pub mod Feeding
pub mod Lists
pub mod Names
pub mod Readable
