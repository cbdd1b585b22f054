use Rattle.daemon_mails.specs.MailTexts.{ended_text}
use Rattle.daemon_mails.proofs.TextLemmas.{three_added}
use Rattle.daemon_mails.proofs.writing.write_ended.Goals as goal

pub returns : goal.returns
unfolding ended_text
returns c =
    three_added _ _ _ _ _ _ _ _ c.in_ok-write_of_run.ensures c.in_ok-push_str.ensures.bytes c.write_how.ensures
