pub mod Copies
pub mod Openings
pub mod PoolJobs
pub mod PoolViews
pub mod Readings
