pub mod Cause
pub mod Files
pub mod Children
pub mod MemoryClock
pub mod MemoryChildren
pub mod MemoryCalls
pub mod MemoryParts
pub mod MemorySpawners
