use Rattle.std.proofs.Common.{codes}
use Rattle.daemon_mails.specs.MailTexts.{of_run_text}
use Rattle.daemon_mails.proofs.TextLemmas.{after_name}
use Rattle.daemon_mails.proofs.writing.write_of_run.Goals as goal

pub returns : goal.returns
unfolding of_run_text
returns c =
    after_name _ _ _ _ c.args.name.now (codes " run=") _ c.in_ok-write.ensures.bytes c.write_run.ensures
