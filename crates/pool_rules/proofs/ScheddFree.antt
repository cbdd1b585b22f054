-- Jobs that are submitted get a free cluster, so that the pool is kept.
use Rattle.std.proofs.Common.{◌≡◌, ℕ, ◌+◌, ◌<◌, ◌≤◌, Bool, true, false, List, [], ◌∷◌, length, Option, Some, None, nat_lt, if◌then◌else◌, ltb-true, refl, sym, subst, arith}
use Rattle.ad_tree.specs.Ad.{Attributes}
use Rattle.pool_parts.specs.declared.answer.Stepped.{Stepped}
use Rattle.pool_parts.specs.declared.event.Event.TheVariants as event
use Rattle.pool_parts.specs.declared.size.TheConstants.{MAX_BYTES}
use Rattle.pool_parts.specs.Clusters.{IsNextCluster, is_used}
use Rattle.pool_parts.specs.declared.clusters.TheConstants.{LAST_CLUSTER}
use Rattle.pool_view.specs.Protocol.{Protocol}
use Rattle.pool_rules.specs.Refusals.{IsEventRefusal, IsRefusal, closed_refusal, events_refusal, first_of}
use Rattle.pool_rules.specs.declared.refusal.TheConstants.{MAX_EVENTS}
use Rattle.pool_state.specs.declared.state.PoolState.{PoolState}
use Rattle.pool_tables.specs.declared.refusal.StepError.{StepError}
use Rattle.pool_tables.specs.declared.refusal.StepError.TheVariants as error
use Rattle.pool_rules.specs.Given.{IsGiven}
use Rattle.pool_rules.specs.Happens.{Happens}
use Rattle.pool_rules.specs.Few.{AreFew}
use Rattle.pool_rules.specs.Kept.{GoesOn, IsKept, at_reading}
use Rattle.pool_rules.specs.Steps.{IsStepOf}
use Rattle.pool_rules.proofs.ScheddClusters.{next_is_free}
use Rattle.pool_rules.proofs.Refusing.{then_none}
use Rattle.pool_rules.proofs.ScheddGoing.{second_none, submit_idle}
use Rattle.pool_rules.proofs.ScheddSubmitted.{unused_goes}

few_events : (s : PoolState) → events_refusal s ≡ None → s.events < MAX_EVENTS
few_events s h = by (nat_lt s.events MAX_EVENTS) refl h
  where
    by : (b : Bool) → nat_lt s.events MAX_EVENTS ≡ b → (if b then None else Some error.Events) ≡ None → s.events < MAX_EVENTS
    by true is h = ltb-true s.events MAX_EVENTS is
    by false is h = cc

few_used : (length events : ℕ) → length ≤ MAX_BYTES + events → events < MAX_EVENTS → length < LAST_CLUSTER
few_used length events few less = omega (arith, few, less)

pub free_next : (s : PoolState) (cluster : ℕ) → AreFew s → events_refusal s ≡ None → IsNextCluster s.queue s.finished cluster → is_used s.queue s.finished cluster ≡ false
free_next s cluster few h next = next_is_free s.queue s.finished cluster few.clusters (few_used (length few.clusters) s.events few.few (few_events s h)) few.all next

pub submit_keeps : (p : Protocol) (s new : PoolState) (r : Stepped) (boot : ℕ) (jobs : List Attributes) (reading : ℕ) → IsKept p s → AreFew s → IsGiven (event.Submit boot jobs reading) s
    → IsRefusal (event.Submit boot jobs reading) s None → Happens (event.Submit boot jobs reading) s new r → GoesOn p (IsStepOf (event.Submit boot jobs reading) s) (at_reading reading new)
unfolding Happens
submit_keeps p s new r boot jobs reading kept few given accepted does =
    subst (λ (x : PoolState). GoesOn p (IsStepOf (event.Submit boot jobs reading) s) (at_reading reading x)) (sym does.pool)
    (unused_goes p (IsStepOf (event.Submit boot jobs reading) s) s does.cluster jobs reading refl kept (submit_idle boot (length jobs) s (sym free.1)) given.0
    (free_next s does.cluster few (second_none (closed_refusal s) (events_refusal s) free.0) does.next))
  where
    causes : Option StepError
    causes = first_of (closed_refusal s ∷ events_refusal s ∷ [])

    free : (causes ≡ None) × IsEventRefusal (event.Submit boot jobs reading) s None
    free = then_none causes (IsEventRefusal (event.Submit boot jobs reading) s) accepted
