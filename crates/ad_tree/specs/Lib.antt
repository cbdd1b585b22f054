-- what contracts say
pub mod Tree
pub mod ValueTree
pub mod Ad
-- how an ad lies over a table, for its Model's invariant alone
pub mod Places
-- what only a table of names and proofs need: hashes of names, and codes of trees
pub mod Name
pub mod NameLaws
pub mod TreeCode
