pub mod Cells
pub mod Logs
pub mod Moving
