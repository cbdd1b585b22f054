pub mod ShownJobs
pub mod ShownSlots
pub mod Slots
