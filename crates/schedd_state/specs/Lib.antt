pub mod Searches
pub mod Reopening
pub mod Schedds
pub mod Looks
pub mod DueChecks
pub mod DueLines
pub mod Leaving
pub mod PreparedSchedds
