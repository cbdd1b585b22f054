mod ClaimNumbers
pub mod TabLemmas
