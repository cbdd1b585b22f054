pub mod TreeLemmas
mod NameLemmas
pub mod AdLemmas
pub mod PlacesLemmas
pub mod SameLemmas
pub mod CopyLemmas
