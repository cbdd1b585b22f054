pub mod Free
pub mod Listing
pub mod Readers
pub mod LooksKept
pub mod Fresh
pub mod Passing
pub mod Oldest
pub mod DueFirst
