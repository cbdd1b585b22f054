pub mod EndTexts
pub mod Faults
pub mod ListTexts
pub mod NumberTexts
pub mod PairNames
pub mod SlotFields
