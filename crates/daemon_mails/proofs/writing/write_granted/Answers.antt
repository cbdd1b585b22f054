use Rattle.daemon_mails.specs.MailTexts.{granted_text}
use Rattle.daemon_mails.proofs.TextLemmas.{three_added}
use Rattle.daemon_mails.proofs.writing.write_granted.Goals as goal

pub returns : goal.returns
unfolding granted_text
returns c =
    three_added _ _ _ _ _ _ _ _ c.in_ok-push_str.ensures.bytes c.in_ok-write_claim.ensures c.write_order.ensures
