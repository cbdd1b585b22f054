-- What an event is refused by.
use Rattle.std.proofs.Common.{◌≡◌, ◌≢◌, inl, inr, Some, None, Result, Ok, Err, IfErr, OnOk, refl, ap, sym, subst}
use Rattle.pool_parts.specs.declared.answer.Stepped.{Stepped}
use Rattle.pool_parts.specs.declared.event.Event.{Event}
use Rattle.pool_rules.specs.Refusals.{IsRefusal}
use Rattle.pool_state.specs.declared.state.PoolState.{PoolState}
use Rattle.pool_tables.specs.declared.refusal.StepError.{StepError}
use Rattle.pool_tables.specs.declared.refusal.StepError.TheVariants as error
use Rattle.pool_rules.specs.Deeds.{at_rest}
use Rattle.pool_rules.specs.Happens.{Reacts}
use Rattle.pool_rules.specs.Limits.{IsLimit, IsTooLarge}
use Rattle.pool_core.specs.Refused.{IsRefused}
use Rattle.pool_core.proofs.Causes.{refusal_other}
use Rattle.pool_core.proofs.Resting.{rest_refusal}

-- by a cause
by_cause : (event : Event) (s : PoolState) (e : StepError) → IsRefusal event s (Some e) → IsRefused event s e
by_cause event s error.Closed h = h
by_cause event s error.Events h = h
by_cause event s (error.Down who) h = h
by_cause event s (error.Up who) h = h
by_cause event s (error.OldBoot asked current) h = h
by_cause event s (error.NoMail index sent) h = h
by_cause event s (error.NotYours index to) h = h
by_cause event s (error.Again index) h = h
by_cause event s (error.StillPending number) h = h
by_cause event s (error.NotPending asked current) h = h
by_cause event s (error.OtherItem number) h = h
by_cause event s (error.NoRun run) h = h
by_cause event s (error.RunLeft run) h = h
by_cause event s error.NotDue h = h
by_cause event s (error.AdMoved slot) h = h
by_cause event s (error.Moved asked length) h = h
by_cause event s (error.NotQuiet what) h = h
by_cause event s error.Jobs h = h
by_cause event s error.Bytes h = absurd (refusal_other event s (Some error.Bytes) h refl)
by_cause event s error.Memory h = h

pub refused_by : (event : Event) (s : PoolState) (e : StepError) → IsRefusal event s (Some e) → IsRefused event (at_rest s) e
refused_by event s e h = by_cause event (at_rest s) e (rest_refusal event s (Some e) h)

-- by a limit
pub refused_at : (event : Event) (s : PoolState) (r : Result Stepped StepError) → IsRefusal event s None → (r ≡ Err error.Bytes → IsTooLarge (λ new x. Reacts (at_rest s) event x new)) → IfErr r IsLimit
    → IfErr r (λ e. e ≢ error.Memory → IsRefused event (at_rest s) e)
refused_at event s (Ok x) none large limit = tt
refused_at event s (Err e) none large (inl bytes) = λ no. subst (λ (x : StepError). IsRefused event (at_rest s) x) (sym bytes) (rest_refusal event s None none, large (ap Err bytes))
refused_at event s (Err e) none large (inr memory) = λ no. absurd (no memory)

pub accepted_at : (event : Event) (s : PoolState) (r : Result Stepped StepError) → IsRefusal event s None → OnOk r (IsRefusal event (at_rest s) None)
accepted_at event s (Ok x) none = rest_refusal event s None none
accepted_at event s (Err e) none = tt
