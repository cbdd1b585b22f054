mod LaunchLemmas
mod QuoteLemmas
