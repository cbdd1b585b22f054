use Rattle.daemon_mails.specs.MailTexts.{release_text}
use Rattle.daemon_mails.proofs.TextLemmas.{two_added}
use Rattle.daemon_mails.proofs.writing.write_release.Goals as goal

pub returns : goal.returns
unfolding release_text
returns c =
    two_added _ _ _ _ _ _ c.in_ok-push_str.ensures.bytes c.write_claim_no.ensures
