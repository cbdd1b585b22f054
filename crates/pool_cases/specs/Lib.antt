pub mod Driven
pub mod Logged
pub mod Marks
pub mod Opened
