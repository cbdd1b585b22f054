-- What a logged plan makes of the jobs that have left the queue, and of the grants.
use Rattle.std.proofs.Common.{◌≡◌, ◌⊎◌, inl, inr, Bool, true, false, cond, List, Option, Some, None, IsSomeAnd, refl, sym, ◌∙◌, ap, subst}
use Rattle.std.specs.Prelude.{Ok}
use Rattle.ad_tree.specs.Ad.{Attributes}
use Rattle.claim_id.specs.declared.numbers.JobId.{JobId}
use Rattle.pool_view.specs.AbstractPool.{AbstractPool, IsIn, set}
use Rattle.pool_view.specs.AbstractStep.{Grant, Lengthen}
use Rattle.pool_view.specs.Ads.{core_of}
use Rattle.pool_view.specs.Numbers.{same_job}
use Rattle.pool_view.specs.declared.job.Entry.{Entry}
use Rattle.pool_view.specs.declared.job.Outcome.{Outcome}
use Rattle.pool_view.specs.declared.job.Outcome.TheVariants as outcome
use Rattle.pool_view.specs.declared.job.State.{State}
use Rattle.pool_view.specs.declared.job.State.TheVariants as state
use Rattle.pool_view.proofs.Sameness.{same_job-true, same_job-same}
use Rattle.pool_view.specs.Protocol.{JobRun, Protocol, change_steps, view_after_all}
use Rattle.pool_view.specs.ProtocolMove.{grants_with_all}
use Rattle.queue_tx.specs.declared.key.Key.TheVariants.{Proc}
use Rattle.queue_tx.specs.Queues.{KeyedAds, ad_at, queue_after}
use Rattle.schedd_plan.specs.declared.plan.Completion.{Completion}
use Rattle.schedd_plan.specs.declared.plan.JobPlan.{JobPlan}
use Rattle.schedd_plan.specs.declared.plan.JobPlan.TheVariants as plan
use Rattle.schedd_plan.specs.Plans.{job_of, plan_ops}
use Rattle.schedd_plan.specs.JobPlaces.{is_left}
use Rattle.schedd_core.specs.JobStates.{ShowsJobs}
use Rattle.schedd_core.specs.Logging.{numbered}
use Rattle.schedd_core.specs.PlanChanges.{change_at, change_by, change_of, complete_change, held_change, how_of, idle_change}
use Rattle.schedd_core.specs.ScheddParts.{IsFitting, IsOrdered}
use Rattle.schedd_core.proofs.PlanJobs.{Shown, ad_elsewhere, ad_of_plan, plan_ad, plan_there, shown}
use Rattle.schedd_core.proofs.PlanMay.{stands_under}
use Rattle.pool_rules.specs.Linked.{IsFinishedAs, IsPlanPlaced}
use Rattle.pool_rules.specs.ScheddEvents.{Finishes, LeavesBy, TakesOut, finished_with}

-- ---- other jobs
set_far : {A : Type 0} (map : JobId → A) (job k : JobId) (value : A) → same_job k job ≡ false → set same_job map job value k ≡ map k
set_far map job k value far = ap (λ b. cond b value (map k)) far

set_here : {A : Type 0} (map : JobId → A) (job : JobId) (value : A) → set same_job map job value job ≡ value
set_here map job value = ap (λ b. cond b value (map job)) (same_job-same job)

idle_far : (v : AbstractPool) (job k : JobId) (s : State) → same_job k job ≡ false → (view_after_all v (change_steps (idle_change job s))).jobs k ≡ v.jobs k
idle_far v job k state.Idle far = set_far v.jobs job k _ far
idle_far v job k state.Held far = set_far v.jobs job k _ far
idle_far v job k (state.Under run end) far = set_far v.jobs job k _ far
idle_far v job k state.Left far = set_far v.jobs job k _ far
idle_far v job k (state.Done by) far = set_far v.jobs job k _ far

held_far : (v : AbstractPool) (job k : JobId) (s : State) → same_job k job ≡ false → (view_after_all v (change_steps (held_change job s))).jobs k ≡ v.jobs k
held_far v job k state.Idle far = set_far v.jobs job k _ far
held_far v job k state.Held far = set_far v.jobs job k _ far
held_far v job k (state.Under run end) far = set_far v.jobs job k _ far
held_far v job k state.Left far = set_far v.jobs job k _ far
held_far v job k (state.Done by) far = set_far v.jobs job k _ far

complete_far : (v : AbstractPool) (job k : JobId) (c : Completion) (s : State) → same_job k job ≡ false → (view_after_all v (change_steps (complete_change job c s))).jobs k ≡ v.jobs k
complete_far v job k c state.Idle far = refl
complete_far v job k c state.Held far = refl
complete_far v job k c (state.Under run end) far = set_far v.jobs job k _ far
complete_far v job k c state.Left far = refl
complete_far v job k c (state.Done by) far = refl

job_far : (v : AbstractPool) (s : State) (pl : JobPlan) (k : JobId) → same_job k (job_of pl) ≡ false → (view_after_all v (change_steps (change_at s pl))).jobs k ≡ v.jobs k
job_far v s (plan.PutIdle job) k far = idle_far v job k s far
job_far v s (plan.PutHeld job reason) k far = held_far v job k s far
job_far v s (plan.Complete job completion) k far = complete_far v job k completion s far
job_far v s (plan.Remove job) k far = set_far v.jobs job k _ far
job_far v s (plan.MarkRemoved job) k far = refl
job_far v s (plan.MarkHeld job reason) k far = refl
job_far v s (plan.MarkRunning job) k far = refl
job_far v s (plan.Lengthen job until) k far = set_far v.jobs job k _ far
job_far v s (plan.Grant job claim number until header) k far = set_far v.jobs job k _ far

finished_far : (pl : JobPlan) (q : KeyedAds) (old new : JobId → Option Entry) (k : JobId) → Finishes pl q old new → same_job k (job_of pl) ≡ false → new k ≡ old k
finished_far (plan.Complete job completion) q old new k f far = by (ad_at (Proc job) q) f
  where
    by : (o : Option Attributes) → IsSomeAnd o (λ ad. (by : Outcome) × LeavesBy (plan.Complete job completion) ad by × (new ≡ finished_with old job ad by)) → new k ≡ old k
    by None h = absurd h
    by (Some ad) (way, leaves, is) = ap (λ f. f k) is ∙ set_far old job k _ far
finished_far (plan.Remove job) q old new k f far = by (ad_at (Proc job) q) f
  where
    by : (o : Option Attributes) → IsSomeAnd o (λ ad. (by : Outcome) × LeavesBy (plan.Remove job) ad by × (new ≡ finished_with old job ad by)) → new k ≡ old k
    by None h = absurd h
    by (Some ad) (way, leaves, is) = ap (λ f. f k) is ∙ set_far old job k _ far
finished_far (plan.PutIdle job) q old new k f far = ap (λ g. g k) f
finished_far (plan.PutHeld job reason) q old new k f far = ap (λ g. g k) f
finished_far (plan.MarkRemoved job) q old new k f far = ap (λ g. g k) f
finished_far (plan.MarkHeld job reason) q old new k f far = ap (λ g. g k) f
finished_far (plan.MarkRunning job) q old new k f far = ap (λ g. g k) f
finished_far (plan.Lengthen job until) q old new k f far = ap (λ g. g k) f
finished_far (plan.Grant job claim number until header) q old new k f far = ap (λ g. g k) f

-- ---- the plan's own job
module _ (pool : AbstractPool) (q new : KeyedAds) (left : List JobId) (old fin : JobId → Option Entry) (o : IsOrdered q) (shows : ShowsJobs q left pool.jobs)
    (were : (job : JobId) → IsFinishedAs (ad_at (Proc job) q) (old job) (pool.jobs job)) where
  -- a job that leaves the queue
  leaving : (job : JobId) (e : Entry) (ad : Attributes) (way done : Outcome) → e.core ≡ core_of ad → way ≡ done → pool.jobs job ≡ Some e
      → set same_job pool.jobs job (Rattle.std.specs.Prelude.option_map (Rattle.pool_view.specs.AbstractStep.entry_with_state (λ _. state.Done done)) (pool.jobs job)) job ≡ finished_with old job ad way job
  leaving job e ad way done core same is =
      set_here pool.jobs job _
      ∙ (ap (λ x. Rattle.std.specs.Prelude.option_map (Rattle.pool_view.specs.AbstractStep.entry_with_state (λ _. state.Done done)) x) is
      ∙ ((λ i. Some (record { core = core i; state = state.Done (sym same i) })) ∙ sym (set_here old job _)))

  -- a job that stays there
  staying : (pl : JobPlan) (s : Shown q left pool.jobs (job_of pl)) (ad : Attributes) (entry : Option Entry) → fin ≡ old → queue_after q (plan_ops pl) ≡ Ok new → plan_ad pl s.ad ≡ Some ad → IsFinishedAs (ad_at (Proc (job_of pl)) new) (fin (job_of pl)) entry
  staying pl s ad entry same h is =
      subst (λ a. IsFinishedAs a (fin (job_of pl)) entry) (sym (ad_of_plan q new pl s.ad o.keys h s.ad_is ∙ is))
      (ap (λ f. f (job_of pl)) same ∙ subst (λ a. IsFinishedAs a (old (job_of pl)) (pool.jobs (job_of pl))) s.ad_is (were (job_of pl)))

  gone : (pl : JobPlan) (s : Shown q left pool.jobs (job_of pl)) (entry : Option Entry) → queue_after q (plan_ops pl) ≡ Ok new → plan_ad pl s.ad ≡ None → entry ≡ fin (job_of pl) → IsFinishedAs (ad_at (Proc (job_of pl)) new) (fin (job_of pl)) entry
  gone pl s entry h is same = subst (λ a. IsFinishedAs a (fin (job_of pl)) entry) (sym (ad_of_plan q new pl s.ad o.keys h s.ad_is ∙ is)) same

  its_ad : (job : JobId) (s : Shown q left pool.jobs job) (pl : JobPlan) → TakesOut pl job q old fin → (by : Outcome) × LeavesBy pl s.ad by × (fin ≡ finished_with old job s.ad by)
  its_ad job s pl t = subst (λ a. IsSomeAnd a (λ ad. (by : Outcome) × LeavesBy pl ad by × (fin ≡ finished_with old job ad by))) s.ad_is t

  own_job : (pl : JobPlan) (s : Shown q left pool.jobs (job_of pl)) → IsFitting q left pl → Finishes pl q old fin → queue_after q (plan_ops pl) ≡ Ok new
      → IsFinishedAs (ad_at (Proc (job_of pl)) new) (fin (job_of pl)) ((view_after_all pool (change_steps (change_at s.entry.state pl))).jobs (job_of pl))
  unfolding plan_ad
  own_job (plan.PutIdle job) s fits f h = staying (plan.PutIdle job) s _ _ f h refl
  own_job (plan.PutHeld job reason) s fits f h = staying (plan.PutHeld job reason) s _ _ f h refl
  own_job (plan.MarkRemoved job) s fits f h = staying (plan.MarkRemoved job) s _ _ f h refl
  own_job (plan.MarkHeld job reason) s fits f h = staying (plan.MarkHeld job reason) s _ _ f h refl
  own_job (plan.MarkRunning job) s fits f h = staying (plan.MarkRunning job) s _ _ f h refl
  own_job (plan.Lengthen job until) s fits f h = staying (plan.Lengthen job until) s _ _ f h refl
  own_job (plan.Grant job claim number until header) s fits f h = staying (plan.Grant job claim number until header) s _ _ f h refl
  own_job (plan.Remove job) s fits f h =
      let t = its_ad job s (plan.Remove job) f in
      gone (plan.Remove job) s _ h refl (leaving job s.entry s.ad t.0 outcome.Removed s.core t.1 s.entry_is ∙ ap (λ g. g job) (sym t.2))
  own_job (plan.Complete job completion) s fits f h =
      let t = its_ad job s (plan.Complete job completion) f in
      by_names t.0 t.1 t.2
    where
      by_names : (way : Outcome) → LeavesBy (plan.Complete job completion) s.ad way → fin ≡ finished_with old job s.ad way
          → IsFinishedAs (ad_at (Proc job) new) (fin job) ((view_after_all pool (change_steps (complete_change job completion s.entry.state))).jobs job)
      by_names way (claim, number, end, names, way_is) is =
          let under : s.entry.state ≡ state.Under (numbered claim number) end = stands_under (is_left job left) s.ad s.entry.state claim number end fits.1 names s.stands in
          subst (λ x. IsFinishedAs (ad_at (Proc job) new) (fin job) ((view_after_all pool (change_steps (complete_change job completion x))).jobs job)) (sym under)
          (gone (plan.Complete job completion) s _ h refl (leaving job s.entry s.ad way (outcome.EndedBy (numbered claim number) (how_of completion)) s.core way_is s.entry_is ∙ ap (λ g. g job) (sym is)))

  -- ---- all jobs
  pub finished_after : (pl : JobPlan) → IsFitting q left pl → Finishes pl q old fin → queue_after q (plan_ops pl) ≡ Ok new
      → (job : JobId) → IsFinishedAs (ad_at (Proc job) new) (fin job) ((view_after_all pool (change_steps (change_of pool.jobs pl))).jobs job)
  finished_after pl fits f h job = by (same_job job (job_of pl)) refl
    where
      its : Shown q left pool.jobs (job_of pl)
      its = shown q left pool.jobs (job_of pl) shows (plan_there q left pl fits)

      change : change_of pool.jobs pl ≡ change_at its.entry.state pl
      change = ap (λ e. change_by e pl) its.entry_is

      by : (b : Bool) → same_job job (job_of pl) ≡ b → IsFinishedAs (ad_at (Proc job) new) (fin job) ((view_after_all pool (change_steps (change_of pool.jobs pl))).jobs job)
      by true is =
          subst (λ k. IsFinishedAs (ad_at (Proc k) new) (fin k) ((view_after_all pool (change_steps (change_of pool.jobs pl))).jobs k)) (sym (same_job-true job (job_of pl) is))
          (subst (λ c. IsFinishedAs (ad_at (Proc (job_of pl)) new) (fin (job_of pl)) ((view_after_all pool (change_steps c)).jobs (job_of pl))) (sym change) (own_job pl its fits f h))
      by false is =
          subst (λ a. IsFinishedAs a (fin job) ((view_after_all pool (change_steps (change_of pool.jobs pl))).jobs job)) (sym (ad_elsewhere q new pl job o.keys h is))
          (subst (λ x. IsFinishedAs (ad_at (Proc job) q) x ((view_after_all pool (change_steps (change_of pool.jobs pl))).jobs job)) (sym (finished_far pl q old fin job f is))
          (subst (λ c. IsFinishedAs (ad_at (Proc job) q) (old job) ((view_after_all pool (change_steps c)).jobs job)) (sym change)
          (subst (IsFinishedAs (ad_at (Proc job) q) (old job)) (sym (job_far pool its.entry.state pl job is)) (were job))))

-- ---- grants
abbrev pub Granted : Protocol → JobRun → List JobRun → Type 0
Granted p g gs = IsIn g gs ⊎ Rattle.pool_rules.specs.Linked.IsPlaced p g.run.claim

idle_grants : (job : JobId) (s : State) (gs : List JobRun) → grants_with_all (change_steps (idle_change job s)) gs ≡ gs
idle_grants job state.Idle gs = refl
idle_grants job state.Held gs = refl
idle_grants job (state.Under run end) gs = refl
idle_grants job state.Left gs = refl
idle_grants job (state.Done by) gs = refl

held_grants : (job : JobId) (s : State) (gs : List JobRun) → grants_with_all (change_steps (held_change job s)) gs ≡ gs
held_grants job state.Idle gs = refl
held_grants job state.Held gs = refl
held_grants job (state.Under run end) gs = refl
held_grants job state.Left gs = refl
held_grants job (state.Done by) gs = refl

complete_grants : (job : JobId) (c : Completion) (s : State) (gs : List JobRun) → grants_with_all (change_steps (complete_change job c s)) gs ≡ gs
complete_grants job c state.Idle gs = refl
complete_grants job c state.Held gs = refl
complete_grants job c (state.Under run end) gs = refl
complete_grants job c state.Left gs = refl
complete_grants job c (state.Done by) gs = refl

pub granted_by : (p : Protocol) (s : State) (pl : JobPlan) (gs : List JobRun) (g : JobRun) → IsPlanPlaced p pl → IsIn g (grants_with_all (change_steps (change_at s pl)) gs) → Granted p g gs
granted_by p s (plan.PutIdle job) gs g placed there = inl (subst (IsIn g) (idle_grants job s gs) there)
granted_by p s (plan.PutHeld job reason) gs g placed there = inl (subst (IsIn g) (held_grants job s gs) there)
granted_by p s (plan.Complete job completion) gs g placed there = inl (subst (IsIn g) (complete_grants job completion s gs) there)
granted_by p s (plan.Remove job) gs g placed there = inl there
granted_by p s (plan.MarkRemoved job) gs g placed there = inl there
granted_by p s (plan.MarkHeld job reason) gs g placed there = inl there
granted_by p s (plan.MarkRunning job) gs g placed there = inl there
granted_by p s (plan.Lengthen job until) gs g placed there = inl there
granted_by p s (plan.Grant job claim number until header) gs g placed (inl same) = inr (subst (λ (x : JobRun). Rattle.pool_rules.specs.Linked.IsPlaced p x.run.claim) (sym same) placed)
granted_by p s (plan.Grant job claim number until header) gs g placed (inr there) = inl there
