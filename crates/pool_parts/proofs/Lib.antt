mod Counted
pub mod Doing
pub mod Growing
pub mod InClusters
pub mod InOrder
pub mod Noting
pub mod PlanLogs
pub mod Printing
mod Pushing
mod QueueWalk
pub mod RequestWalk
pub mod Rooms
pub mod ShortNumbers
pub mod Submitting
pub mod Walks
