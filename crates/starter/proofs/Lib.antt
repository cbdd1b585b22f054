pub mod Counted
pub mod Keeping
pub mod Lists
pub mod Tables
