pub mod KeptPools
pub mod Leading
pub mod Made
pub mod Pushed
pub mod Refused
pub mod ShortPlans
