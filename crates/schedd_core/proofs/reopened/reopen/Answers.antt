use Rattle.std.proofs.Common.{◌∙◌, sym, subst}
use Rattle.schedd_state.specs.Schedds.{ScheddValue}
use Rattle.schedd_core.specs.Logging.{IsReopened}
use Rattle.schedd_core.proofs.reopened.reopen.Goals as goal

pub returns-clause-schedd : goal.returns-clause-schedd
returns-clause-schedd c =
    subst (λ (v : ScheddValue). IsReopened c.args.schedd.now c.args.queue.now c.args.reading v) (sym c.commit.ensures.schedd) c.in_ok-prepared.ensures.schedd

pub returns-clause-step : goal.returns-clause-step
returns-clause-step c = c.commit.ensures.step ∙ c.in_ok-prepared.ensures.step
