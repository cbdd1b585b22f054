pub mod LeftLists
mod PutLemmas
mod ChangeLemmas
