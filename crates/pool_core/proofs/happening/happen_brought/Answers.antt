use Rattle.std.proofs.Common.{ℕ, ap, subst}
use Rattle.pool_rules.specs.Deeds.{at_rest}
use Rattle.pool_rules.specs.Happens.{Happens}
use Rattle.pool_rules.specs.Limits.{IsTooLarge}
use Rattle.pool_state.specs.declared.state.PoolState.{PoolState}
use Rattle.pool_tables.specs.declared.refusal.StepError.TheVariants as error
use Rattle.schedd_steps.proofs.Refused.{no_err}
use Rattle.pool_core.proofs.happening.happen_brought.Goals as goal

pub returns-in-Ok : goal.returns-in-Ok
returns-in-Ok c =
    let s = c.args.state.now in
    let new = at_rest c.happen.new.state in
    record {
      happens = subst (λ (n : ℕ). Happens c.args.event.now (at_rest (record s { counts = record s.counts { bytes = n } })) new c.in-Ok.stepped) c.in_ok-state.ensures c.in-Ok.ensures.happens;
      within = c.in-Ok.ensures.within;
      large = λ is. no_err _ error.Bytes is;
      refused = tt;
      same = tt;
    }

pub returns-in-Err : goal.returns-in-Err
returns-in-Err c =
    let s = c.args.state.now in
    record {
      happens = tt;
      within = tt;
      large = λ is. subst (λ (n : ℕ). IsTooLarge (Happens c.args.event.now (at_rest (record s { counts = record s.counts { bytes = n } })))) c.in_ok-state.ensures (c.in-Err.ensures.large is);
      refused = c.in-Err.ensures.refused;
      same = ap (λ (t : PoolState). record t { counts = record t.counts { bytes = s.counts.bytes } }) c.in-Err.ensures.kept;
    }
