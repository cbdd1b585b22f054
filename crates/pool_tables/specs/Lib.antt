pub mod DaemonTables
pub mod Kept
pub mod Links
pub mod MailLists
pub mod OrderTables
pub mod Repeats
