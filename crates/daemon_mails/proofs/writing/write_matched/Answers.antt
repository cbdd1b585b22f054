use Rattle.daemon_mails.specs.MailTexts.{matched_text}
use Rattle.daemon_mails.proofs.TextLemmas.{four_added}
use Rattle.daemon_mails.proofs.writing.write_matched.Goals as goal

pub returns : goal.returns
unfolding matched_text
returns c =
    four_added _ _ _ _ _ _ _ _ _ _ c.in_ok-write_order.ensures c.in_ok-push_str.ensures.bytes c.in_ok-write_claim.ensures c.write.ensures.bytes
