mod ArgumentLemmas
mod NumberLemmas
mod TextLemmas
mod ListLemmas
pub mod FunctionLemmas
