pub mod Growing
pub mod Ready
