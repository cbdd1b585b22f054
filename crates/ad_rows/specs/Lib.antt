pub mod Digests
pub mod Requests
pub mod Rows
pub mod Submitted
