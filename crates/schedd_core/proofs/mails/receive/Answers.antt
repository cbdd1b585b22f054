use Rattle.std.proofs.Common.{◌∙◌}
use Rattle.schedd_core.proofs.mails.receive.Goals as goal

pub returns-clause-schedd : goal.returns-clause-schedd
returns-clause-schedd c = c.commit.ensures.schedd ∙ c.in_ok-prepared.ensures.schedd

pub returns-clause-step : goal.returns-clause-step
returns-clause-step c = c.commit.ensures.step ∙ c.in_ok-prepared.ensures.step
