pub mod Names
pub mod Numbers
pub mod Strings
pub mod Marks
pub mod Lexing
pub mod Blanks
pub mod Canonical
pub mod LongestMark
