pub mod Runs
pub mod Seen
pub mod Follows
pub mod UserLog
pub mod WholeRun
