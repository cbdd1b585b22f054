use Rattle.daemon_mails.specs.MailTexts.{run_until_text}
use Rattle.daemon_mails.proofs.TextLemmas.{two_added}
use Rattle.daemon_mails.proofs.writing.write_run_until.Goals as goal

pub returns : goal.returns
unfolding run_until_text
returns c =
    two_added _ _ _ _ _ _ c.in_ok-write_of_run.ensures c.write.ensures.bytes
