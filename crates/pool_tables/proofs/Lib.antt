pub mod Backwards
pub mod Counting
pub mod Putting
pub mod Sending
pub mod Startds
