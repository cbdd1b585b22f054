use Rattle.daemon_mails.specs.MailTexts.{denied_head}
use Rattle.daemon_mails.proofs.TextLemmas.{six_added}
use Rattle.daemon_mails.proofs.writing.write_denied.Goals as goal

pub returns : goal.returns
unfolding denied_head
returns c =
    six_added _ _ _ _ _ _ _ _ _ _ _ _ _ _ c.in_ok-push_str.ensures.bytes c.in_ok-write_claim_no.ensures c.in_ok-push_str-2.ensures.bytes c.in_ok-write_some_run.ensures c.in_ok-write_order.ensures c.push_str-3.ensures.bytes
