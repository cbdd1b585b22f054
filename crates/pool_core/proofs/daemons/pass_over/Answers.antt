use Rattle.std.proofs.Common.{refl, subst, ℕ, ◌≤◌}
use Rattle.pool_parts.specs.declared.size.TheConstants.{MAX_BYTES}
use Rattle.pool_rules.specs.Deeds.{at_rest}
use Rattle.pool_tables.specs.declared.refusal.StepError.TheVariants as error
use Rattle.schedd_steps.proofs.Refused.{no_err}
use Rattle.pool_core.proofs.TooLarge.{made_large}
use Rattle.pool_core.proofs.daemons.pass_over.Goals as goal

pub returns-in_err-_bytes-clause-large : goal.returns-in_err-_bytes-clause-large
returns-in_err-_bytes-clause-large c = λ is.
    let s = c.args.state.now in
    made_large (at_rest s) s.counts.bytes refl c.in_err-_bytes.ensures.large

pub returns : goal.returns
returns c =
    let bytes = c.in_ok-_bytes.ensures in
    record { nothing = (refl, c.nothing_asked.ensures); within = subst (λ (n : ℕ). n ≤ MAX_BYTES) bytes.same bytes.within; large = λ is. no_err _ error.Bytes is; refused = tt }
