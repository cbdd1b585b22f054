-- What a logged plan makes of the schedd's part of the protocol, and what is sent for it.
use Rattle.std.proofs.Common.{◌≡◌, inl, inr, ℕ, ◌+◌, Bool, true, false, List, Option, Some, is_some, IsSomeAnd, IfSome, refl, ap, sym, ◌∙◌, subst}
use Rattle.std.specs.Prelude.{Ok}
use Rattle.ad_rows.specs.Rows.{integer_literal}
use Rattle.ad_tree.specs.Ad.{Attributes}
use Rattle.claim_id.specs.declared.numbers.JobId.{JobId}
use Rattle.pool_view.specs.Facts.{Facts, CanBeMade}
use Rattle.pool_view.specs.Protocol.{Change, Hidden, Submission, OfJob, Removal, Protocol, change_steps, pending_steps, view_after_all}
use Rattle.pool_view.specs.ProtocolMove.{Commit, removals_with, protocol_after}
use Rattle.pool_view.specs.AbstractPool.{AbstractPool, IsIn}
use Rattle.pool_view.specs.Numbers.{same_job}
use Rattle.pool_view.specs.declared.job.State.{State}
use Rattle.pool_view.specs.declared.job.State.TheVariants as state
use Rattle.pool_view.proofs.Sameness.{same_job-true}
use Rattle.queue_tx.specs.declared.key.Key.TheVariants.{Proc}
use Rattle.queue_tx.specs.declared.kind.JobKind.TheVariants as kind
use Rattle.queue_tx.specs.Kinds.{kind_of}
use Rattle.queue_tx.specs.Queues.{KeyedAds, ad_at, queue_after}
use Rattle.schedd_plan.specs.declared.plan.Completion.{Completion}
use Rattle.schedd_plan.specs.declared.plan.JobPlan.{JobPlan}
use Rattle.schedd_plan.specs.declared.plan.JobPlan.TheVariants as plan
use Rattle.schedd_plan.specs.declared.status.JobStatus.{JobStatus}
use Rattle.schedd_plan.specs.declared.status.JobStatus.TheVariants as status
use Rattle.schedd_plan.specs.Plans.{job_of, plan_ops}
use Rattle.schedd_plan.specs.JobAttributes.{status_by, status_of}
use Rattle.schedd_core.specs.JobStates.{ShowsJobs}
use Rattle.schedd_core.specs.Logging.{after_plan}
use Rattle.schedd_core.specs.PlanChanges.{change_at, change_by, change_of, idle_change, held_change, complete_change}
use Rattle.schedd_core.specs.ScheddParts.{IsMarked, IsPart, IsOrdered, IsFitting}
use Rattle.schedd_state.specs.Schedds.{ScheddValue}
use Rattle.schedd_core.proofs.PlanAds.{with_status, marked_held, runless, lengthened, granted, status_at, status_set, status_marked, status_runless, status_lengthened, status_granted, claim_lengthened, has_claim, under_kind}
use Rattle.schedd_core.proofs.PlanJobs.{plan_ad, ad_of_plan, ad_elsewhere, left_after, jobs_after_plan, plan_there, Shown, shown}

-- ---- the schedd after a plan
pub left_is : (p : JobPlan) (v : ScheddValue) → (after_plan p v).left ≡ left_after p v.left
unfolding after_plan
left_is (plan.PutIdle job) v = refl
left_is (plan.PutHeld job reason) v = refl
left_is (plan.Complete job completion) v = refl
left_is (plan.Remove job) v = refl
left_is (plan.MarkRemoved job) v = refl
left_is (plan.MarkHeld job reason) v = refl
left_is (plan.MarkRunning job) v = refl
left_is (plan.Lengthen job until) v = refl
left_is (plan.Grant job claim number until header) v = refl

pub runs_are : (p : JobPlan) (v : ScheddValue) → (after_plan p v).runs ≡ v.runs
unfolding after_plan
runs_are (plan.PutIdle job) v = refl
runs_are (plan.PutHeld job reason) v = refl
runs_are (plan.Complete job completion) v = refl
runs_are (plan.Remove job) v = refl
runs_are (plan.MarkRemoved job) v = refl
runs_are (plan.MarkHeld job reason) v = refl
runs_are (plan.MarkRunning job) v = refl
runs_are (plan.Lengthen job until) v = refl
runs_are (plan.Grant job claim number until header) v = refl

-- ---- the next number
same_next : (v : AbstractPool) (job : JobId) (s : State) → (view_after_all v (change_steps (idle_change job s))).next ≡ v.next
same_next v job state.Idle = refl
same_next v job state.Held = refl
same_next v job (state.Under run end) = refl
same_next v job state.Left = refl
same_next v job (state.Done outcome) = refl

same_next_held : (v : AbstractPool) (job : JobId) (s : State) → (view_after_all v (change_steps (held_change job s))).next ≡ v.next
same_next_held v job state.Idle = refl
same_next_held v job state.Held = refl
same_next_held v job (state.Under run end) = refl
same_next_held v job state.Left = refl
same_next_held v job (state.Done outcome) = refl

same_next_complete : (v : AbstractPool) (job : JobId) (c : Completion) (s : State) → (view_after_all v (change_steps (complete_change job c s))).next ≡ v.next
same_next_complete v job c state.Idle = refl
same_next_complete v job c state.Held = refl
same_next_complete v job c (state.Under run end) = refl
same_next_complete v job c state.Left = refl
same_next_complete v job c (state.Done outcome) = refl

next_after_plan : (pool : AbstractPool) (v : ScheddValue) (s : State) (p : JobPlan) → pool.next ≡ v.next_run → CanBeMade pool (change_at s p) → (view_after_all pool (change_steps (change_at s p))).next ≡ (after_plan p v).next_run
unfolding after_plan
next_after_plan pool v s (plan.PutIdle job) next can = same_next pool job s ∙ next
next_after_plan pool v s (plan.PutHeld job reason) next can = same_next_held pool job s ∙ next
next_after_plan pool v s (plan.Complete job completion) next can = same_next_complete pool job completion s ∙ next
next_after_plan pool v s (plan.Remove job) next can = next
next_after_plan pool v s (plan.MarkRemoved job) next can = next
next_after_plan pool v s (plan.MarkHeld job reason) next can = next
next_after_plan pool v s (plan.MarkRunning job) next can = next
next_after_plan pool v s (plan.Lengthen job until) next can = next
next_after_plan pool v s (plan.Grant job claim number until header) next can = ap (λ n. n + 1) (sym can.1.1)

-- ---- marked jobs
abbrev MarkedAd : Option Attributes → Type 0
MarkedAd o = IsSomeAnd o (λ ad. (status_of ad ≡ status.Removed) × (kind_of ad ≡ Some kind.Under))

not_marked : (ad : Attributes) (n : ℕ) (st : JobStatus) → status_at ad ≡ Some (integer_literal n) → status_by (Some (integer_literal n)) ≡ st → status_of ad ≡ st
not_marked ad n st is also = ap status_by is ∙ also

marked_own : (s : State) (p : JobPlan) (ad : Attributes) (removals : List JobId) → (MarkedAd (Some ad) → IsIn (job_of p) removals) → MarkedAd (plan_ad p ad) → IsIn (job_of p) (removals_with (Some (change_at s p)) removals)
unfolding plan_ad
marked_own s (plan.PutIdle job) ad removals was marked = let clash : status.Idle ≡ status.Removed = sym (not_marked (runless (with_status 1 ad)) 1 status.Idle (status_runless (with_status 1 ad) ∙ status_set 1 ad) refl) ∙ marked.0 in cc
marked_own s (plan.PutHeld job reason) ad removals was marked = let clash : status.Held ≡ status.Removed = sym (not_marked (runless (marked_held reason ad)) 5 status.Held (status_runless (marked_held reason ad) ∙ status_marked reason ad) refl) ∙ marked.0 in cc
marked_own s (plan.Complete job completion) ad removals was marked = absurd marked
marked_own s (plan.Remove job) ad removals was marked = absurd marked
marked_own s (plan.MarkRemoved job) ad removals was marked = inl refl
marked_own s (plan.MarkHeld job reason) ad removals was marked = let clash : status.Held ≡ status.Removed = sym (not_marked (marked_held reason ad) 5 status.Held (status_marked reason ad) refl) ∙ marked.0 in cc
marked_own s (plan.MarkRunning job) ad removals was marked = let clash : status.Running ≡ status.Removed = sym (not_marked (with_status 2 ad) 2 status.Running (status_set 2 ad) refl) ∙ marked.0 in cc
marked_own s (plan.Lengthen job until) ad removals was marked =
    was (sym (ap status_by (status_lengthened until ad)) ∙ marked.0, under_kind ad (ap is_some (sym (claim_lengthened until ad)) ∙ has_claim (lengthened until ad) marked.1))
marked_own s (plan.Grant job claim number until header) ad removals was marked = let clash : status.Running ≡ status.Removed = sym (not_marked (granted claim number until ad) 2 status.Running (status_granted claim number until ad) refl) ∙ marked.0 in cc

more_removals : (c : Change) (job : JobId) (removals : List JobId) → IsIn job removals → IsIn job (removals_with (Some c) removals)
more_removals Hidden job removals h = h
more_removals (Submission jobs) job removals h = h
more_removals (OfJob step) job removals h = h
more_removals (Removal k) job removals h = inr h

module _ (p : Protocol) (q new : KeyedAds) (v : ScheddValue) (pl : JobPlan) (part : IsPart p q v) (o : IsOrdered q) (fits : IsFitting q v.left pl) (h : queue_after q (plan_ops pl) ≡ Ok new) where
  its : Shown q v.left p.pool.jobs (job_of pl)
  its = shown q v.left p.pool.jobs (job_of pl) part.jobs (plan_there q v.left pl fits)

  now_is : ad_at (Proc (job_of pl)) new ≡ plan_ad pl its.ad
  now_is = ad_of_plan q new pl its.ad o.keys h its.ad_is

  marked_after : (job : JobId) → IsMarked new job → IsIn job (removals_with (Some (change_of p.pool.jobs pl)) p.removals)
  marked_after job marked = by (same_job job (job_of pl)) refl
    where
      own : MarkedAd (ad_at (Proc (job_of pl)) new) → IsIn (job_of pl) (removals_with (Some (change_of p.pool.jobs pl)) p.removals)
      own m =
          subst (λ e. IsIn (job_of pl) (removals_with (Some (change_by e pl)) p.removals)) (sym its.entry_is)
          (marked_own its.entry.state pl its.ad p.removals (λ was. part.marked (job_of pl) (subst MarkedAd (sym its.ad_is) was)) (subst MarkedAd now_is m))

      by : (b : Bool) → same_job job (job_of pl) ≡ b → IsIn job (removals_with (Some (change_of p.pool.jobs pl)) p.removals)
      by true is =
          let same = same_job-true job (job_of pl) is in
          subst (λ k. IsIn k (removals_with (Some (change_of p.pool.jobs pl)) p.removals)) (sym same) (own (subst (λ k. MarkedAd (ad_at (Proc k) new)) same marked))
      by false is = more_removals (change_of p.pool.jobs pl) job p.removals (part.marked job (subst MarkedAd (ad_elsewhere q new pl job o.keys h is) marked))

  module _ (facts : Facts p) (pending : p.pending ≡ Some (change_of p.pool.jobs pl)) where
    can : CanBeMade p.pool (change_at its.entry.state pl)
    can =
        subst (λ e. CanBeMade p.pool (change_by e pl)) its.entry_is
        (subst (λ c. IfSome c (CanBeMade p.pool)) pending facts.pending)

    pub part_committed : IsPart (protocol_after p Commit) new (after_plan pl v)
    part_committed = record {
      jobs =
          subst (λ l. ShowsJobs new l (view_after_all p.pool (pending_steps p.pending)).jobs) (sym (left_is pl v))
          (subst (λ c. ShowsJobs new (left_after pl v.left) (view_after_all p.pool (pending_steps c)).jobs) (sym pending)
          (jobs_after_plan p.pool q new v.left o part.jobs pl fits h));
      next =
          ap (λ c. (view_after_all p.pool (pending_steps c)).next) pending
          ∙ ap (λ e. (view_after_all p.pool (change_steps (change_by e pl))).next) its.entry_is
          ∙ next_after_plan p.pool v its.entry.state pl part.next can;
      marked = λ job marked. subst (λ c. IsIn job (removals_with c p.removals)) (sym pending) (marked_after job marked);
    }
