pub mod Acting
pub mod Clusters
pub mod Posting
pub mod Readying
pub mod TooLarge
