mod NumberLemmas
mod SameLemmas
mod FindLemmas
mod Looks
mod EvalLemmas
mod PlaceLemmas
pub mod MatchLemmas
mod SettlingLemmas
mod ConditionalLemmas
mod SideLemmas
