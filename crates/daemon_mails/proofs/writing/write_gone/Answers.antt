use Rattle.daemon_mails.specs.MailTexts.{gone_text}
use Rattle.daemon_mails.proofs.TextLemmas.{two_added}
use Rattle.daemon_mails.proofs.writing.write_gone.Goals as goal

pub returns : goal.returns
unfolding gone_text
returns c =
    two_added _ _ _ _ _ _ c.in_ok-write_of_run.ensures c.write.ensures.bytes
