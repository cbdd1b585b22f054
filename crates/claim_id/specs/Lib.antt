pub mod SlotTable
pub mod States
pub mod Texts
