-- A job whose end waits to be logged has an ad that names its run.
use Rattle.std.proofs.Common.{◌≡◌, Bool, true, false, Some, IsSomeAnd, sym, ◌∙◌, subst}
use Rattle.ad_tree.specs.Ad.{Attributes}
use Rattle.claim_id.specs.declared.numbers.JobId.{JobId}
use Rattle.pool_view.specs.declared.job.State.{State}
use Rattle.pool_view.specs.declared.job.State.TheVariants as state
use Rattle.pool_view.specs.Protocol.{Protocol}
use Rattle.queue_tx.specs.declared.key.Key.TheVariants.{Proc}
use Rattle.queue_tx.specs.declared.kind.JobKind.TheVariants as kind
use Rattle.queue_tx.specs.Kinds.{kind_of}
use Rattle.queue_tx.specs.Queues.{ad_at}
use Rattle.schedd_plan.specs.declared.plan.Completion.{Completion}
use Rattle.schedd_plan.specs.declared.plan.JobPlan.TheVariants as plan
use Rattle.schedd_plan.specs.JobPlaces.{is_left}
use Rattle.schedd_core.specs.JobStates.{ShowsState}
use Rattle.schedd_core.proofs.PlanJobs.{Shown, kind_there, shown, there_under}
use Rattle.pool_rules.specs.Linked.{AwaitsPlan, IsLinked}
use Rattle.pool_rules.specs.PoolParts.{PoolParts}
use Rattle.pool_rules.specs.ScheddEvents.{NamesSomeRun}

named_by : (left : Bool) (ad : Attributes) (s : State) → left ≡ false → kind_of ad ≡ Some kind.Under → ShowsState left ad s → NamesSomeRun ad
named_by left ad (state.Under run end) not_left under (its, (claim, claim_is, names)) = (claim, run.number, end, names)
named_by left ad state.Idle not_left under shows = let clash : Some kind.Idle ≡ Some kind.Under = sym shows ∙ under in cc
named_by left ad state.Held not_left under shows = let clash : Some kind.Held ≡ Some kind.Under = sym shows ∙ under in cc
named_by left ad state.Left not_left under shows = let clash : true ≡ false = sym shows.0 ∙ not_left in cc
named_by left ad (state.Done by) not_left under shows = absurd shows

pub run_is_named : (p : Protocol) (a : PoolParts) (job : JobId) (completion : Completion) → IsLinked p a → AwaitsPlan p a (plan.Complete job completion) → IsSomeAnd (ad_at (Proc job) a.queue) NamesSomeRun
run_is_named p a job completion linked w =
    let its : Shown a.queue a.schedd.left p.pool.jobs job = shown a.queue a.schedd.left p.pool.jobs job linked.schedd.jobs (there_under a.queue job w.fitting.0) in
    subst (λ o. IsSomeAnd o NamesSomeRun) (sym its.ad_is)
    (named_by (is_left job a.schedd.left) its.ad its.entry.state w.fitting.1 (kind_there a.queue job its.ad w.fitting.0 its.ad_is) its.stands)
