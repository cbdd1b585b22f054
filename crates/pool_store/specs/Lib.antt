pub mod BadNumbers
pub mod Boots
pub mod MemoryFiles
pub mod MemoryParts
pub mod Moments
pub mod OpenErrors
pub mod Openings
pub mod Past
