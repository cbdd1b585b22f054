pub mod Ads
pub mod Mails
pub mod Seconds
