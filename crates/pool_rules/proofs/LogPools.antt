-- The unfinished transaction of a kept pool can be logged.
use Rattle.std.proofs.Common.{◌≡◌, ℕ, ◌+◌, ◌≤◌, Bool, true, false, List, [], ◌∷◌, length, Option, Some, None, IsSome, IsSomeAnd, Result, Ok, Err, if◌then◌else◌, ltb-false, refl, sym, ◌∙◌, ap, subst, arith}
use Rattle.std.specs.Prelude.{IfSome, IsOk}
use Rattle.std.specs.Map.{keys_of}
use Rattle.ad_tree.specs.Ad.{Attributes}
use Rattle.claim_id.specs.declared.numbers.JobId.{JobId}
use Rattle.pool_parts.specs.declared.answer.Stepped.{Stepped}
use Rattle.pool_parts.specs.declared.event.Event.TheVariants as event
use Rattle.pool_parts.specs.Clusters.{has_cluster, is_used}
use Rattle.pool_parts.specs.declared.pending.Pending.{Pending}
use Rattle.pool_parts.specs.declared.pending.Unfinished.{Unfinished}
use Rattle.pool_parts.specs.declared.pending.Unfinished.TheVariants.{Plan}
use Rattle.pool_view.specs.Protocol.{Protocol}
use Rattle.pool_rules.specs.Refusals.{IsEventRefusal, IsRefusal, closed_refusal, events_refusal, first_of, is_over, jobs_refusal, schedd_refusal}
use Rattle.pool_state.specs.declared.opening.TheConstants.{MAX_JOBS}
use Rattle.pool_state.specs.declared.state.PoolState.{PoolState}
use Rattle.pool_tables.specs.declared.refusal.StepError.{StepError}
use Rattle.pool_tables.specs.declared.refusal.StepError.TheVariants as error
use Rattle.queue_tx.specs.declared.error.ApplyError.{ApplyError}
use Rattle.queue_tx.specs.declared.key.Key.TheVariants.{Proc}
use Rattle.queue_tx.specs.Kinds.{kind_of}
use Rattle.queue_tx.specs.Operations.{Operation}
use Rattle.queue_tx.specs.Queues.{KeyedAds, IsQueue, ad_at, queue_after}
use Rattle.queue_tx.proofs.RoomKept.{either_false}
use Rattle.schedd_core.specs.ScheddParts.{IsFitting, IsThere}
use Rattle.schedd_state.specs.Reopening.{is_under_at, under_by}
use Rattle.schedd_plan.specs.declared.plan.JobPlan.{JobPlan}
use Rattle.schedd_plan.specs.declared.plan.JobPlan.TheVariants as plan
use Rattle.schedd_plan.specs.Plans.{job_of, plan_ops}
use Rattle.pool_rules.specs.Linked.{Awaits, AwaitsPlan}
use Rattle.pool_rules.specs.PoolParts.{Awaited, NewJobs, Planned}
use Rattle.pool_rules.specs.Happens.{Happens, Reacts, counts_event}
use Rattle.pool_rules.specs.Few.{AreFew}
use Rattle.pool_rules.specs.Kept.{IsKept, IsTxOf}
use Rattle.pool_parts.specs.Loggable.{AreLoggableJobs, CanBeLogged, HasShortNumbers, IsLoggableQueue, IsNewCluster, KnowsHeader, NamesClaim}
use Rattle.pool_rules.specs.Unfinished.{CanFinish}
use Rattle.pool_rules.specs.Parts.{awaited_by, awaited_of, parts_of}
use Rattle.pool_parts.proofs.PlanLogs.{plan_logs}
use Rattle.pool_parts.proofs.Submitting.{submission_logs}
use Rattle.pool_rules.proofs.Refusing.{first_none, then_none}
use Rattle.pool_rules.proofs.ScheddClusters.{next_is_number}
use Rattle.pool_rules.proofs.ScheddFree.{free_next}
use Rattle.pool_rules.proofs.ScheddGoing.{second_none}
use Rattle.pool_rules.proofs.ScheddSubmitted.{none_of_cluster}

-- ---- the queue of a kept pool
pub queue_of : (p : Protocol) (s : PoolState) → IsKept p s → IsQueue s.queue
queue_of p s kept = by (awaited_of s.pending) kept.linked.awaited
  where
    by : (o : Option Awaited) → Awaits p (parts_of s) o → IsQueue s.queue
    by None w = w.fits.queue.keys
    by (Some (NewJobs ids tx)) w = w.fits.queue.keys
    by (Some (Planned pl)) w = w.lost.fits.queue.keys

-- ---- a plan
is_there : (q : KeyedAds) (job : JobId) → IsThere q job → IsSome (ad_at (Proc job) q)
is_there q job h = by (ad_at (Proc job) q) h
  where
    by : (o : Option Attributes) → IsSomeAnd o (λ ad. IsSome (kind_of ad)) → IsSome o
    by None h = absurd h
    by (Some ad) h = refl

is_under : (q : KeyedAds) (job : JobId) → is_under_at q job ≡ true → IsSome (ad_at (Proc job) q)
is_under q job h = by (ad_at (Proc job) q) h
  where
    by : (o : Option Attributes) → under_by o ≡ true → IsSome o
    by None h = cc
    by (Some ad) h = refl

fitting_there : (q : KeyedAds) (left : List JobId) (pl : JobPlan) → IsFitting q left pl → IsSome (ad_at (Proc (job_of pl)) q)
fitting_there q left (plan.PutIdle job) h = is_there q job h
fitting_there q left (plan.PutHeld job reason) h = is_there q job h
fitting_there q left (plan.Complete job completion) h = is_under q job h.0
fitting_there q left (plan.Remove job) h = is_there q job h
fitting_there q left (plan.MarkRemoved job) h = is_under q job h
fitting_there q left (plan.MarkHeld job reason) h = is_under q job h
fitting_there q left (plan.MarkRunning job) h = is_under q job h
fitting_there q left (plan.Lengthen job until) h = is_under q job h
fitting_there q left (plan.Grant job claim number until header) h = is_there q job h.0

fitting_claim : (q : KeyedAds) (left : List JobId) (pl : JobPlan) → IsFitting q left pl → NamesClaim pl
fitting_claim q left (plan.PutIdle job) h = tt
fitting_claim q left (plan.PutHeld job reason) h = tt
fitting_claim q left (plan.Complete job completion) h = tt
fitting_claim q left (plan.Remove job) h = tt
fitting_claim q left (plan.MarkRemoved job) h = tt
fitting_claim q left (plan.MarkHeld job reason) h = tt
fitting_claim q left (plan.MarkRunning job) h = tt
fitting_claim q left (plan.Lengthen job until) h = tt
fitting_claim q left (plan.Grant job claim number until header) h = h.2

pub kept_plan_logs : (p : Protocol) (s : PoolState) (x : Pending) (pl : JobPlan) → IsKept p s → IsLoggableQueue s.queue → s.pending ≡ Some x → x.what ≡ Plan pl
    → KnowsHeader s.queue pl → HasShortNumbers pl → CanBeLogged x.tx s.queue
kept_plan_logs p s x pl kept logs is what knows short =
    subst (λ (tx : List Operation). CanBeLogged tx s.queue) (sym its)
    (plan_logs s.queue pl (queue_of p s kept) logs (record {
      there = fitting_there s.queue s.schedd.left pl waits.fitting;
      header = knows;
      claim = fitting_claim s.queue s.schedd.left pl waits.fitting;
      short = short;
    }))
  where
    waits : AwaitsPlan p (parts_of s) pl
    waits = subst (λ (o : Option Awaited). Awaits p (parts_of s) o) (ap awaited_of is ∙ ap (λ (u : Unfinished). Some (awaited_by x.tx u)) what) kept.linked.awaited

    its : x.tx ≡ plan_ops pl
    its = subst (λ (u : Unfinished). IsTxOf u x.tx) what (subst (λ (o : Option Pending). IfSome o (λ y. IsTxOf y.what y.tx)) is kept.pending)

-- ---- a submission
few_enough : (jobs count : ℕ) → jobs_refusal jobs count ≡ None → count ≤ MAX_JOBS
few_enough jobs count none = by (is_over jobs count) refl none
  where
    by : (b : Bool) → is_over jobs count ≡ b → (if b then Some error.Jobs else None) ≡ None → count ≤ MAX_JOBS
    by true is h = cc
    by false is h = let small = ltb-false MAX_JOBS (jobs + count) is in omega (arith, small)

new_cluster : (s : PoolState) (cluster : ℕ) → is_used s.queue s.finished cluster ≡ false → IsNewCluster s.queue cluster
new_cluster s cluster unused proc =
    none_of_cluster cluster proc s.queue (either_false (has_cluster cluster (keys_of s.queue)) (has_cluster cluster (keys_of s.finished)) unused).0

pub submitted_logs : (p : Protocol) (s new : PoolState) (boot : ℕ) (jobs : List Attributes) (reading : ℕ) (r : Stepped) → IsKept p s → AreFew s → IsLoggableQueue s.queue → AreLoggableJobs jobs
    → IsRefusal (event.Submit boot jobs reading) s None → Reacts s (event.Submit boot jobs reading) r new → CanFinish new
unfolding Happens
submitted_logs p s new boot jobs reading r kept few logs are accepted reacts =
    let does = reacts.happens in
    let number = next_is_number s.queue s.finished does.cluster does.next in
    let high = number.1 in
    let unused = free_next s does.cluster few (second_none (closed_refusal s) (events_refusal s) free.0) does.next in
    subst (λ (x : PoolState). CanFinish x) (sym reacts.pool)
    (subst (λ (x : PoolState). CanFinish (counts_event (event.Submit boot jobs reading) s x)) (sym does.pool)
    (submission_logs s.queue does.cluster jobs (queue_of p s kept) logs.roomy (new_cluster s does.cluster unused) number.0 (omega (arith, high)) (omega (arith, few_count)) are))
  where
    causes : Option StepError
    causes = first_of (closed_refusal s ∷ events_refusal s ∷ [])

    free : (causes ≡ None) × IsEventRefusal (event.Submit boot jobs reading) s None
    free = then_none causes (IsEventRefusal (event.Submit boot jobs reading) s) accepted

    few_count : length jobs ≤ MAX_JOBS
    few_count =
        let rest = (first_none (schedd_refusal boot s) (jobs_refusal s.counts.jobs (length jobs) ∷ []) (sym free.1)).1 in
        few_enough s.counts.jobs (length jobs) (first_none (jobs_refusal s.counts.jobs (length jobs)) [] rest).0

-- ---- what is unfinished makes a queue
pub finishes : (s : PoolState) (x : Pending) → CanFinish s → s.pending ≡ Some x → (q : KeyedAds) × (queue_after s.queue x.tx ≡ Ok q)
finishes s x can is =
    let logs : CanBeLogged x.tx s.queue = subst (λ (o : Option Pending). IfSome o (λ y. CanBeLogged y.tx s.queue)) is can in
    by (queue_after s.queue x.tx) refl logs.done
  where
    by : (o : Result KeyedAds ApplyError) → queue_after s.queue x.tx ≡ o → IsOk o → (q : KeyedAds) × (queue_after s.queue x.tx ≡ Ok q)
    by (Ok q) is h = (q, is)
    by (Err e) is h = cc
