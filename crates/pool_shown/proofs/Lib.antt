pub mod AdsInOrder
mod CoreNames
mod DoneJobs
mod Steps
