use Rattle.std.proofs.Common.{codes}
use Rattle.daemon_mails.specs.MailTexts.{order_text}
use Rattle.daemon_mails.proofs.TextLemmas.{after_name}
use Rattle.daemon_mails.proofs.writing.write_order.Goals as goal

pub returns : goal.returns
unfolding order_text
returns c =
    after_name _ _ _ _ c.args.name.now (codes " job=") _ c.in_ok-write.ensures.bytes c.write_job.ensures
