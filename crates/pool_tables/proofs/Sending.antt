-- Mails that are sent one after the other.
use Rattle.std.proofs.Common.{◌≡◌, ◌≤◌, List, length}
use Rattle.pool_mail.specs.declared.mail.Mail.{Mail}
use Rattle.pool_tables.specs.MailLists.{MailsValue, with_mails}

-- what is left, after what was sent, is all
pub record Sends (whole : List Mail) (old : MailsValue) (rest : List Mail) (m : MailsValue) : Type 0 where
  pub same : with_mails rest m ≡ with_mails whole old
  pub fits : length rest ≤ m.spare
