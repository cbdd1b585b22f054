pub mod ByTime
pub mod LawLemmas
pub mod LineLemmas
pub mod LoadLemmas
pub mod OneEntry
pub mod Values
