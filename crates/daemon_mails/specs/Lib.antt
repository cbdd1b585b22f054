pub mod MailTexts
