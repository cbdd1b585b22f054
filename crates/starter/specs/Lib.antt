pub mod ChildTables
pub mod Launchers
pub mod Spawners
