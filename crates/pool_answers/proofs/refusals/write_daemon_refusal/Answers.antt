use Rattle.std.proofs.Common.{[], codes}
use Rattle.pool_answers.specs.RefusalTexts.{daemon_refusal}
use Rattle.pool_answers.proofs.TextLemmas.{after_mark}
use Rattle.pool_answers.proofs.refusals.write_daemon_refusal.Goals as goal

pub returns : goal.returns
unfolding daemon_refusal
returns c = after_mark _ _ _ _ [] c.args.name.now (codes "\t") _ c.in_ok-write.ensures.bytes c.write_daemon.ensures
