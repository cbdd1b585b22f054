use Rattle.daemon_mails.specs.MailTexts.{mail_text}
use Rattle.daemon_mails.proofs.TextLemmas.{known_some, two_added}
use Rattle.daemon_mails.proofs.writing.write_mail.Goals as goal

pub returns-in-Matched : goal.returns-in-Matched
returns-in-Matched c = known_some mail_text _ _ _ _ _ c.in-Matched.is c.write_matched.ensures

pub returns-in-Granted : goal.returns-in-Granted
returns-in-Granted c = known_some mail_text _ _ _ _ _ c.in-Granted.is c.write_granted.ensures

pub returns-in_ok-write_denied-in-Denied : goal.returns-in_ok-write_denied-in-Denied
returns-in_ok-write_denied-in-Denied c =
    known_some mail_text _ _ _ _ _ c.in-Denied.is (two_added _ _ _ _ _ _ c.in_ok-write_denied-in-Denied.ensures c.write_why.ensures)
