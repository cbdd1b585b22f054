use Rattle.std.proofs.Common.{Err, inr, refl}
use Rattle.pool_rules.specs.Deeds.{at_rest}
use Rattle.pool_tables.specs.declared.refusal.StepError.TheVariants as error
use Rattle.schedd_steps.proofs.Refused.{no_bytes, no_err}
use Rattle.pool_core.proofs.Counting.{event_counted}
use Rattle.pool_core.proofs.TooLarge.{reacts_large}
use Rattle.pool_core.proofs.happening.react.Goals as goal

pub returns-in_default : goal.returns-in_default
returns-in_default c = record { reacts = tt; within = tt; short = tt; large = λ is. no_bytes _ (Err error.Memory) refl is; refused = inr refl; same = refl }

pub returns-in-Err : goal.returns-in-Err
returns-in-Err c =
    let done = c.in-Err.ensures in
    record {
      reacts = tt;
      within = tt;
      short = tt;
      large = λ is. reacts_large c.args.event.now (at_rest c.args.state.now) (done.large is);
      refused = done.refused;
      same = done.same;
    }

pub returns-in-Ok : goal.returns-in-Ok
returns-in-Ok c =
    let new = c.happen_brought.new.state in
    record {
      reacts = record {
        then_pool = at_rest new;
        happens = c.in-Ok.ensures.happens;
        pool = event_counted c.args.event.now c.args.state.now new c.in-Some.events c.latest_after-latest.result c.reading.result c.in-Some.ensures.1 c.latest_after-latest.ensures c.reading.ensures;
      };
      within = c.in-Ok.ensures.within;
      short = c.go_over_plan.ensures;
      large = λ is. no_err _ error.Bytes is;
      refused = tt;
      same = tt;
    }
