use Rattle.std.proofs.Common.{None, ap}
use Rattle.schedd_state.specs.PreparedSchedds.{schedd_after}
use Rattle.schedd_state.specs.Schedds.{ScheddValue}
use Rattle.pool_rules.specs.Deeds.{at_rest}
use Rattle.pool_tables.specs.declared.refusal.StepError.TheVariants as error
use Rattle.schedd_steps.proofs.Refused.{no_err}
use Rattle.schedd_steps.proofs.UnfinishedDone.{lost_too_large}
use Rattle.schedd_steps.proofs.logged.reopen_lost.Goals as goal

pub returns-in_err-_bytes-clause-large : goal.returns-in_err-_bytes-clause-large
returns-in_err-_bytes-clause-large c = λ is.
    lost_too_large c.args.state.now c.args.reading (schedd_after c.in_ok-prepared.prepared c.args.state.now.schedd) c.in_ok-prepared.ensures.schedd c.in_err-_bytes.ensures.large

pub returns-clause-back : goal.returns-clause-back
returns-clause-back c =
    let old = c.args.state.now in (
      record {
        schedd = schedd_after c.in_ok-prepared.prepared old.schedd;
        back = c.in_ok-prepared.ensures.schedd;
        pool = ap (λ (v : ScheddValue). record (at_rest old) { schedd = v; pending = None }) c.commit-step.ensures.schedd;
      },
      c.nothing_asked.ensures,
    )

pub returns-clause-large : goal.returns-clause-large
returns-clause-large c = λ is. no_err _ error.Bytes is
