pub mod Rows
pub mod Prepared
pub mod Ticks
pub mod Checks
pub mod Logging
pub mod JobStates
pub mod PlanChanges
pub mod ScheddParts
