-- A schedd that comes back with its plan logged, and one that comes back with nothing unfinished.
use Rattle.std.proofs.Common.{◌≡◌, ℕ, ◌+◌, Bool, true, false, cond, not, List, [], ◌∷◌, Option, Some, None, is_some, refl, ap, sym, ◌∙◌, subst}
use Rattle.std.specs.Prelude.{Ok}
use Rattle.ad_tree.specs.Ad.{Attributes}
use Rattle.claim_id.specs.declared.numbers.ClaimId.{ClaimId}
use Rattle.claim_id.specs.declared.numbers.JobId.{JobId}
use Rattle.pool_view.specs.Protocol.{Protocol}
use Rattle.pool_view.specs.Numbers.{same_job}
use Rattle.pool_view.specs.declared.job.Entry.{Entry}
use Rattle.pool_view.specs.declared.job.State.{State}
use Rattle.pool_view.specs.declared.job.State.TheVariants as state
use Rattle.pool_view.proofs.Members.{in_filter, passing_in}
use Rattle.pool_view.proofs.Sameness.{same_job-true}
use Rattle.queue_tx.specs.declared.key.Key.TheVariants.{Proc}
use Rattle.queue_tx.specs.Kinds.{kind_of}
use Rattle.queue_tx.specs.Queues.{KeyedAds, ad_at, queue_after}
use Rattle.schedd_plan.specs.declared.plan.JobPlan.{JobPlan}
use Rattle.schedd_plan.specs.declared.plan.JobPlan.TheVariants as plan
use Rattle.schedd_plan.specs.Plans.{job_of, plan_ops}
use Rattle.schedd_plan.specs.JobPlaces.{is_left, taken_off}
use Rattle.schedd_core.specs.JobStates.{ShowsState, ShowsJob, ShowsJobs}
use Rattle.schedd_core.specs.Logging.{after_plan, reopened, IsReopened}
use Rattle.schedd_state.specs.Reopening.{IsReader, next_after, is_under_kind, under_by, is_under_at, still_left, found_runs, found_claims}
use Rattle.schedd_core.specs.ScheddParts.{IsPart, IsOrdered, IsFitting}
use Rattle.schedd_state.specs.Schedds.{ScheddValue}
use Rattle.schedd_core.proofs.FitsAfter.{Frees, freed_kind, ad_by}
use Rattle.schedd_core.proofs.PlanAds.{run_kind, run_granted, granted}
use Rattle.schedd_core.proofs.PlanJobs.{plan_ad, ad_of_plan, plan_there}
use Rattle.schedd_core.proofs.PlanMay.{in_left, left_in}

-- a job that is under no claim counts as left no more
still_off : (q : KeyedAds) (job : JobId) (left : List JobId) → is_under_at q job ≡ false → still_left q (taken_off job left) ≡ still_left q left
still_off q job [] free = refl
still_off q job (x ∷ xs) free = by (same_job x job) refl (still_off q job xs free)
  where
    by : (b : Bool) → same_job x job ≡ b → still_left q (taken_off job xs) ≡ still_left q xs
        → still_left q (cond (not b) (x ∷ taken_off job xs) (taken_off job xs)) ≡ cond (is_under_at q x) (x ∷ still_left q xs) (still_left q xs)
    by true is rest = rest ∙ sym (ap (λ b. cond b (x ∷ still_left q xs) (still_left q xs)) (ap (is_under_at q) (same_job-true x job is) ∙ free))
    by false is rest = ap (λ l. cond (is_under_at q x) (x ∷ l) l) rest

module _ (q new : KeyedAds) (v : ScheddValue) (pl : JobPlan) (o : IsOrdered q) (fits : IsFitting q v.left pl) (h : queue_after q (plan_ops pl) ≡ Ok new) where
  its : (ad : Attributes) × (ad_at (Proc (job_of pl)) q ≡ Some ad) × (is_some (kind_of ad) ≡ true)
  its = ad_by q (job_of pl) (plan_there q v.left pl fits)

  now_is : ad_at (Proc (job_of pl)) new ≡ plan_ad pl its.0
  now_is = ad_of_plan q new pl its.0 o.keys h its.1

  free : Frees (job_of pl) pl → is_under_at new (job_of pl) ≡ false
  free frees = ap under_by now_is ∙ freed_kind (job_of pl) pl its.0 frees (o.names (Proc (job_of pl)) its.0 its.1)

  same_left : (x : JobPlan) → pl ≡ x → still_left new (after_plan x v).left ≡ still_left new v.left
  unfolding after_plan
  same_left (plan.PutIdle job) is = still_off new job v.left (ap (is_under_at new) (sym (ap job_of is)) ∙ free (subst (λ p. Frees (job_of p) p) (sym is) refl))
  same_left (plan.PutHeld job reason) is = still_off new job v.left (ap (is_under_at new) (sym (ap job_of is)) ∙ free (subst (λ p. Frees (job_of p) p) (sym is) refl))
  same_left (plan.Complete job completion) is = still_off new job v.left (ap (is_under_at new) (sym (ap job_of is)) ∙ free (subst (λ p. Frees (job_of p) p) (sym is) refl))
  same_left (plan.Remove job) is = still_off new job v.left (ap (is_under_at new) (sym (ap job_of is)) ∙ free (subst (λ p. Frees (job_of p) p) (sym is) refl))
  same_left (plan.MarkRemoved job) is = refl
  same_left (plan.MarkHeld job reason) is = refl
  same_left (plan.MarkRunning job) is = refl
  same_left (plan.Lengthen job until) is = refl
  same_left (plan.Grant job claim number until header) is = refl

  same_next : (x : JobPlan) → pl ≡ x → next_after new (after_plan x v).waiting (after_plan x v).next_run ≡ next_after new (Some x) v.next_run
  unfolding after_plan plan_ad
  same_next (plan.PutIdle job) is = refl
  same_next (plan.PutHeld job reason) is = refl
  same_next (plan.Complete job completion) is = refl
  same_next (plan.Remove job) is = refl
  same_next (plan.MarkRemoved job) is = refl
  same_next (plan.MarkHeld job reason) is = refl
  same_next (plan.MarkRunning job) is = refl
  same_next (plan.Lengthen job until) is = refl
  same_next (plan.Grant job claim number until header) is =
      let at : ad_at (Proc job) new ≡ Some (granted claim number until its.0) =
      ap (λ p. ad_at (Proc (job_of p)) new) (sym is) ∙ (now_is ∙ ap (λ p. plan_ad p its.0) is) in
      let valid = (subst (IsFitting q v.left) is fits).2 in
      let under : is_under_at new job ≡ true = ap under_by at ∙ ap is_under_kind (run_kind (granted claim number until its.0) claim number until (run_granted its.0 claim number until valid)) in
      sym (ap (λ b. cond b (number + 1) v.next_run) under)

  same_settings : (x : JobPlan) → (after_plan x v).settings ≡ v.settings
  unfolding after_plan
  same_settings (plan.PutIdle job) = refl
  same_settings (plan.PutHeld job reason) = refl
  same_settings (plan.Complete job completion) = refl
  same_settings (plan.Remove job) = refl
  same_settings (plan.MarkRemoved job) = refl
  same_settings (plan.MarkHeld job reason) = refl
  same_settings (plan.MarkRunning job) = refl
  same_settings (plan.Lengthen job until) = refl
  same_settings (plan.Grant job claim number until header) = refl

  same_back : (read : List ℕ → Option ClaimId) (jobs : List JobId) (reading : ℕ) → v.waiting ≡ Some pl → reopened read jobs new reading v ≡ reopened read jobs new reading (after_plan pl v)
  unfolding reopened
  same_back read jobs reading waiting =
      let next = ap (λ w. next_after new w v.next_run) waiting ∙ sym (same_next pl refl) in
      let left = sym (same_left pl refl) in
      let settings = sym (same_settings pl) in
      λ i. record {
        settings = settings i;
        next_run = next i;
        left = left i;
        claims = found_claims new (found_runs read new (left i) reading jobs);
        runs = found_runs read new (left i) reading jobs;
        checked = [];
        passed = None;
        waiting = None;
      }

  pub kept_as_logged : (back : ScheddValue) (reading : ℕ) → v.waiting ≡ Some pl → IsReopened v new reading back → IsReopened (after_plan pl v) new reading back
  kept_as_logged back reading waiting r = record { jobs = r.jobs; under = r.under; schedd = λ read reads. r.schedd read reads ∙ same_back read r.jobs reading waiting }

-- ---- the part that a schedd is which has come back
not_left_still : (q : KeyedAds) (left : List JobId) (k : JobId) → is_left k left ≡ false → is_left k (still_left q left) ≡ false
not_left_still q left k h = by (is_left k (still_left q left)) refl
  where
    by : (b : Bool) → is_left k (still_left q left) ≡ b → b ≡ false
    by true e = let clash : true ≡ false = sym (in_left k left (in_filter (is_under_at q) k left (left_in k (still_left q left) e))) ∙ h in cc
    by false e = refl

state_still : (q : KeyedAds) (left : List JobId) (k : JobId) (ad : Attributes) (s : State) → ad_at (Proc k) q ≡ Some ad → ShowsState (is_left k left) ad s → ShowsState (is_left k (still_left q left)) ad s
state_still q left k ad state.Idle is shows = shows
state_still q left k ad state.Held is shows = shows
state_still q left k ad (state.Under run end) is shows = (not_left_still q left k shows.0, shows.1)
state_still q left k ad state.Left is shows = (in_left k (still_left q left) (passing_in (is_under_at q) k left (left_in k left shows.0) (ap under_by is ∙ ap is_under_kind shows.1)), shows.1)
state_still q left k ad (state.Done outcome) is shows = shows

shows_still : (q : KeyedAds) (left : List JobId) (jobs : JobId → Option Entry) → ShowsJobs q left jobs → ShowsJobs q (still_left q left) jobs
shows_still q left jobs shows k = by (ad_at (Proc k) q) refl (jobs k) (shows k)
  where
    by : (a : Option Attributes) → ad_at (Proc k) q ≡ a → (e : Option Entry) → ShowsJob (is_left k left) a e → ShowsJob (is_left k (still_left q left)) a e
    by None is e h = h
    by (Some ad) is None h = h
    by (Some ad) is (Some e) h = (h.0, state_still q left k ad e.state is h.1)

pub reopened_part : (read : List ℕ → Option ClaimId) → IsReader read → (p : Protocol) (q : KeyedAds) (v back : ScheddValue) (reading : ℕ) → IsPart p q v → v.waiting ≡ None → IsReopened v q reading back → IsPart p q back
unfolding reopened
reopened_part read reads p q v back reading part none r =
    subst (IsPart p q) (sym (r.schedd read reads)) (record {
      jobs = shows_still q v.left p.pool.jobs part.jobs;
      next = part.next ∙ sym (ap (λ w. next_after q w v.next_run) none);
      marked = part.marked;
    })
