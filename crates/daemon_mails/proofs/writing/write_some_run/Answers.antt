use Rattle.daemon_mails.specs.MailTexts.{some_run_text}
use Rattle.daemon_mails.proofs.TextLemmas.{known}
use Rattle.daemon_mails.proofs.writing.write_some_run.Goals as goal

pub returns-in-Some : goal.returns-in-Some
returns-in-Some c = known some_run_text _ _ _ _ _ c.in-Some.is c.write_run.ensures
