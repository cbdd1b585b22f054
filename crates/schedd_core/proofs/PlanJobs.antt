-- What a plan leaves of the jobs once it is logged.
use Rattle.std.proofs.Common.{◌≡◌, ℕ, Bool, true, false, cond, not, ◌||◌, List, [], ◌∷◌, Option, Some, None, is_some, IsSome, IsSomeAnd, IfSome, refl, ap, sym, ◌∙◌, subst}
use Rattle.std.specs.Prelude.{Ok, option_map}
use Rattle.ad_tree.specs.Ad.{Attributes}
use Rattle.claim_id.specs.declared.numbers.ClaimId.{ClaimId}
use Rattle.claim_id.specs.declared.numbers.JobId.{JobId}
use Rattle.pool_view.specs.Protocol.{change_steps, view_after_all}
use Rattle.pool_view.specs.AbstractPool.{AbstractPool}
use Rattle.pool_view.specs.AbstractStep.{entry_with_state, with_state, with_lease_end}
use Rattle.pool_view.specs.Ads.{core_of}
use Rattle.pool_view.specs.Numbers.{same_job}
use Rattle.pool_view.specs.declared.job.Entry.{Entry}
use Rattle.pool_view.specs.declared.job.Outcome.{Outcome}
use Rattle.pool_view.specs.declared.job.Outcome.TheVariants.{Removed, EndedBy}
use Rattle.pool_view.specs.declared.job.State.{State}
use Rattle.pool_view.specs.declared.job.State.TheVariants as state
use Rattle.pool_view.proofs.Sameness.{same_job-true, same_job-same}
use Rattle.queue_tx.specs.declared.key.Key.TheVariants.{Proc}
use Rattle.queue_tx.specs.declared.kind.JobKind.{JobKind}
use Rattle.queue_tx.specs.declared.kind.JobKind.TheVariants as kind
use Rattle.queue_tx.specs.Keys.{same_key, same_key_laws}
use Rattle.queue_tx.specs.Kinds.{kind_of}
use Rattle.queue_tx.specs.Queues.{KeyedAds, IsQueue, ad_at, queue_after}
use Rattle.schedd_plan.specs.declared.plan.Completion.TheVariants.{Exited, Signalled}
use Rattle.schedd_plan.specs.declared.plan.JobPlan.{JobPlan}
use Rattle.schedd_plan.specs.declared.plan.JobPlan.TheVariants as plan
use Rattle.schedd_plan.specs.Plans.{job_of, plan_ops, run_ops, next_run_ops, header_op}
use Rattle.schedd_plan.specs.JobPlaces.{is_left, taken_off}
use Rattle.schedd_core.specs.JobStates.{NamesRun, ShowsState, ShowsEntry, ShowsJob, ShowsJobs, IsDone}
use Rattle.schedd_core.specs.Logging.{numbered}
use Rattle.schedd_core.specs.PlanChanges.{Jobs, idle_change, held_change, complete_change, change_at, change_by, change_of, how_of}
use Rattle.schedd_state.specs.Reopening.{is_under_kind, under_by, is_under_at}
use Rattle.schedd_core.specs.ScheddParts.{IsOrdered, IsThere, IsFitting}
use Rattle.schedd_core.proofs.PlanAds.{with_status, marked_held, runless, lengthened, granted, core_status, core_marked, core_runless, core_lengthened, core_granted, idle_kind, held_kind, has_claim, under_kind, run_status, run_marked, run_lengthened, run_granted, claim_status, claim_marked, claim_lengthened}
use Rattle.schedd_core.proofs.QueueChanges.{made_at, ops_at, AllElsewhere, made_all, made_here, made_elsewhere, made_appended, same_proc}

-- ---- the ad of a plan's job
unfoldable pub plan_ad : JobPlan → Attributes → Option Attributes
plan_ad (plan.PutIdle job) ad = Some (runless (with_status 1 ad))
plan_ad (plan.PutHeld job reason) ad = Some (runless (marked_held reason ad))
plan_ad (plan.Complete job completion) ad = None
plan_ad (plan.Remove job) ad = None
plan_ad (plan.MarkRemoved job) ad = Some (with_status 3 ad)
plan_ad (plan.MarkHeld job reason) ad = Some (marked_held reason ad)
plan_ad (plan.MarkRunning job) ad = Some (with_status 2 ad)
plan_ad (plan.Lengthen job until) ad = Some (lengthened until ad)
plan_ad (plan.Grant job claim number until header) ad = Some (granted claim number until ad)

same_itself : (job : JobId) → same_key (Proc job) (Proc job) ≡ true
same_itself job = same_key_laws.refl (Proc job)

made_here_at : (p : JobPlan) (ad : Attributes) → made_at (Proc (job_of p)) (Some ad) (plan_ops p) ≡ plan_ad p ad
unfolding plan_ops plan_ad
made_here_at (plan.PutIdle job) ad = let s = same_itself job in made_here (Proc job) (Some ad) (plan_ops (plan.PutIdle job)) (s, (s, (s, (s, tt))))
made_here_at (plan.PutHeld job reason) ad = let s = same_itself job in made_here (Proc job) (Some ad) (plan_ops (plan.PutHeld job reason)) (s, (s, (s, (s, (s, tt)))))
made_here_at (plan.Complete job (Exited code)) ad = let s = same_itself job in made_here (Proc job) (Some ad) (plan_ops (plan.Complete job (Exited code))) (s, (s, (s, (s, tt))))
made_here_at (plan.Complete job (Signalled signal)) ad = let s = same_itself job in made_here (Proc job) (Some ad) (plan_ops (plan.Complete job (Signalled signal))) (s, (s, (s, (s, tt))))
made_here_at (plan.Remove job) ad = let s = same_itself job in made_here (Proc job) (Some ad) (plan_ops (plan.Remove job)) (s, (s, tt))
made_here_at (plan.MarkRemoved job) ad = made_here (Proc job) (Some ad) (plan_ops (plan.MarkRemoved job)) (same_itself job, tt)
made_here_at (plan.MarkHeld job reason) ad = let s = same_itself job in made_here (Proc job) (Some ad) (plan_ops (plan.MarkHeld job reason)) (s, (s, tt))
made_here_at (plan.MarkRunning job) ad = made_here (Proc job) (Some ad) (plan_ops (plan.MarkRunning job)) (same_itself job, tt)
made_here_at (plan.Lengthen job until) ad = made_here (Proc job) (Some ad) (plan_ops (plan.Lengthen job until)) (same_itself job, tt)
made_here_at (plan.Grant job claim number until true) ad =
    let s = same_itself job in
    made_appended (Proc job) (Some ad) (run_ops job claim number until) (next_run_ops number)
    ∙ ap (λ a. made_at (Proc job) a (next_run_ops number)) (made_here (Proc job) (Some ad) (run_ops job claim number until) (s, (s, (s, (s, tt)))))
    ∙ made_elsewhere (Proc job) (made_all (Some ad) (run_ops job claim number until)) (next_run_ops number) (refl, tt)
made_here_at (plan.Grant job claim number until false) ad =
    let s = same_itself job in
    made_appended (Proc job) (Some ad) (header_op ∷ next_run_ops number) (run_ops job claim number until)
    ∙ ap (λ a. made_at (Proc job) a (run_ops job claim number until)) (made_elsewhere (Proc job) (Some ad) (header_op ∷ next_run_ops number) (refl, (refl, tt)))
    ∙ made_here (Proc job) (Some ad) (run_ops job claim number until) (s, (s, (s, (s, tt))))

pub ad_of_plan : (q new : KeyedAds) (p : JobPlan) (ad : Attributes) → IsQueue q → queue_after q (plan_ops p) ≡ Ok new
    → ad_at (Proc (job_of p)) q ≡ Some ad → ad_at (Proc (job_of p)) new ≡ plan_ad p ad
ad_of_plan q new p ad s h is =
    ops_at (Proc (job_of p)) 0 q new (plan_ops p) s h
    ∙ ap (λ a. made_at (Proc (job_of p)) a (plan_ops p)) is
    ∙ made_here_at p ad

-- ---- the ads of the other jobs
all_far : (p : JobPlan) (k : JobId) → same_key (Proc (job_of p)) (Proc k) ≡ false → AllElsewhere (Proc k) (plan_ops p)
unfolding plan_ops
all_far (plan.PutIdle job) k s = (s, (s, (s, (s, tt))))
all_far (plan.PutHeld job reason) k s = (s, (s, (s, (s, (s, tt)))))
all_far (plan.Complete job (Exited code)) k s = (s, (s, (s, (s, tt))))
all_far (plan.Complete job (Signalled signal)) k s = (s, (s, (s, (s, tt))))
all_far (plan.Remove job) k s = (s, (s, tt))
all_far (plan.MarkRemoved job) k s = (s, tt)
all_far (plan.MarkHeld job reason) k s = (s, (s, tt))
all_far (plan.MarkRunning job) k s = (s, tt)
all_far (plan.Lengthen job until) k s = (s, tt)
all_far (plan.Grant job claim number until true) k s = (s, (s, (s, (s, (refl, tt)))))
all_far (plan.Grant job claim number until false) k s = (refl, (refl, (s, (s, (s, (s, tt))))))

pub ad_elsewhere : (q new : KeyedAds) (p : JobPlan) (k : JobId) → IsQueue q → queue_after q (plan_ops p) ≡ Ok new
    → same_job k (job_of p) ≡ false → ad_at (Proc k) new ≡ ad_at (Proc k) q
ad_elsewhere q new p k s h apart =
    ops_at (Proc k) 0 q new (plan_ops p) s h
    ∙ made_elsewhere (Proc k) (ad_at (Proc k) q) (plan_ops p) (all_far p k (same_proc (job_of p) k ∙ apart))

-- ---- jobs that were left
pub apart_back : (a b : JobId) → same_job a b ≡ false → same_job b a ≡ false
apart_back a b apart = by (same_job b a) refl
  where
    by : (t : Bool) → same_job b a ≡ t → t ≡ false
    by true is = let same = same_job-true b a is in let clash = subst (λ x. same_job x b ≡ true) same (same_job-same b) in cc
    by false is = refl

pub left_elsewhere : (job k : JobId) (left : List JobId) → same_job k job ≡ false → is_left k (taken_off job left) ≡ is_left k left
left_elsewhere job k [] apart = refl
left_elsewhere job k (x ∷ xs) apart = by (same_job x job) refl (left_elsewhere job k xs apart)
  where
    by : (b : Bool) → same_job x job ≡ b → is_left k (taken_off job xs) ≡ is_left k xs
        → is_left k (cond (not b) (x ∷ taken_off job xs) (taken_off job xs)) ≡ (same_job x k || is_left k xs)
    by true is rest =
        let same = same_job-true x job is in
        let far : same_job x k ≡ false = ap (λ y. same_job y k) same ∙ apart_back k job apart in
        rest ∙ sym (ap (λ b. b || is_left k xs) far)
    by false is rest = ap (λ b. same_job x k || b) rest

abbrev pub left_after : JobPlan → List JobId → List JobId
left_after (plan.PutIdle job) left = taken_off job left
left_after (plan.PutHeld job reason) left = taken_off job left
left_after (plan.Complete job completion) left = taken_off job left
left_after (plan.Remove job) left = taken_off job left
left_after (plan.MarkRemoved job) left = left
left_after (plan.MarkHeld job reason) left = left
left_after (plan.MarkRunning job) left = left
left_after (plan.Lengthen job until) left = left
left_after (plan.Grant job claim number until header) left = left

pub left_apart : (p : JobPlan) (k : JobId) (left : List JobId) → same_job k (job_of p) ≡ false → is_left k (left_after p left) ≡ is_left k left
left_apart (plan.PutIdle job) k left apart = left_elsewhere job k left apart
left_apart (plan.PutHeld job reason) k left apart = left_elsewhere job k left apart
left_apart (plan.Complete job completion) k left apart = left_elsewhere job k left apart
left_apart (plan.Remove job) k left apart = left_elsewhere job k left apart
left_apart (plan.MarkRemoved job) k left apart = refl
left_apart (plan.MarkHeld job reason) k left apart = refl
left_apart (plan.MarkRunning job) k left apart = refl
left_apart (plan.Lengthen job until) k left apart = refl
left_apart (plan.Grant job claim number until header) k left apart = refl

-- ---- a job that the queue has
pub record Shown (q : KeyedAds) (left : List JobId) (jobs : Jobs) (job : JobId) : Type 0 where
  pub ad : Attributes
  pub ad_is : ad_at (Proc job) q ≡ Some ad
  pub entry : Entry
  pub entry_is : jobs job ≡ Some entry
  pub core : entry.core ≡ core_of ad
  pub stands : ShowsState (is_left job left) ad entry.state

pub shown_at : (q : KeyedAds) (left : List JobId) (jobs : Jobs) (job : JobId) (ad : Attributes) → ShowsJobs q left jobs → ad_at (Proc job) q ≡ Some ad → IsSome (kind_of ad) → Shown q left jobs job
shown_at q left jobs job ad shows is some = by (jobs job) refl (subst (λ o. ShowsJob (is_left job left) o (jobs job)) is (shows job))
  where
    by : (o : Option Entry) → jobs job ≡ o → ShowsEntry (is_left job left) ad o → Shown q left jobs job
    by None e shown = let clash : false ≡ true = sym (ap is_some shown) ∙ some in cc
    by (Some entry) e shown = record { ad = ad; ad_is = is; entry = entry; entry_is = e; core = shown.0; stands = shown.1 }

pub shown : (q : KeyedAds) (left : List JobId) (jobs : Jobs) (job : JobId) → ShowsJobs q left jobs → IsThere q job → Shown q left jobs job
shown q left jobs job shows there = by (ad_at (Proc job) q) refl there
  where
    by : (o : Option Attributes) → ad_at (Proc job) q ≡ o → IsSomeAnd o (λ ad. IsSome (kind_of ad)) → Shown q left jobs job
    by None is h = absurd h
    by (Some ad) is h = shown_at q left jobs job ad shows is h

-- one that is under a claim
pub under_is : (k : Option JobKind) → is_under_kind k ≡ true → k ≡ Some kind.Under
under_is None h = cc
under_is (Some kind.Idle) h = cc
under_is (Some kind.Held) h = cc
under_is (Some kind.Under) h = refl

pub record UnderAd (q : KeyedAds) (job : JobId) : Type 0 where
  pub ad : Attributes
  pub ad_is : ad_at (Proc job) q ≡ Some ad
  pub kind_is : kind_of ad ≡ Some kind.Under

pub under_ad : (q : KeyedAds) (job : JobId) → is_under_at q job ≡ true → UnderAd q job
under_ad q job h = by (ad_at (Proc job) q) refl h
  where
    by : (o : Option Attributes) → ad_at (Proc job) q ≡ o → under_by o ≡ true → UnderAd q job
    by None is h = cc
    by (Some ad) is h = record { ad = ad; ad_is = is; kind_is = under_is (kind_of ad) h }

pub is_there : (q : KeyedAds) (job : JobId) (ad : Attributes) → ad_at (Proc job) q ≡ Some ad → IsSome (kind_of ad) → IsThere q job
is_there q job ad is some = subst (λ o. IsSomeAnd o (λ ad. IsSome (kind_of ad))) (sym is) some

pub there_under : (q : KeyedAds) (job : JobId) → is_under_at q job ≡ true → IsThere q job
there_under q job h = let u = under_ad q job h in is_there q job u.ad u.ad_is (ap is_some u.kind_is)

-- the queue has each plan's job
pub plan_there : (q : KeyedAds) (left : List JobId) (p : JobPlan) → IsFitting q left p → IsThere q (job_of p)
plan_there q left (plan.PutIdle job) fits = fits
plan_there q left (plan.PutHeld job reason) fits = fits
plan_there q left (plan.Complete job completion) fits = there_under q job fits.0
plan_there q left (plan.Remove job) fits = fits
plan_there q left (plan.MarkRemoved job) fits = there_under q job fits
plan_there q left (plan.MarkHeld job reason) fits = there_under q job fits
plan_there q left (plan.MarkRunning job) fits = there_under q job fits
plan_there q left (plan.Lengthen job until) fits = there_under q job fits
plan_there q left (plan.Grant job claim number until header) fits = fits.0

pub kind_there : (q : KeyedAds) (job : JobId) (ad : Attributes) → is_under_at q job ≡ true → ad_at (Proc job) q ≡ Some ad → kind_of ad ≡ Some kind.Under
kind_there q job ad h is = under_is (kind_of ad) (sym (ap under_by is) ∙ h)

-- ---- the queue goes on to show the jobs
-- where the state of one job changes
shows_with : (q new : KeyedAds) (left : List JobId) (v : AbstractPool) (p : JobPlan) (f : State → State) → IsQueue q → queue_after q (plan_ops p) ≡ Ok new → ShowsJobs q left v.jobs
    → ShowsJob (is_left (job_of p) (left_after p left)) (ad_at (Proc (job_of p)) new) (option_map (entry_with_state f) (v.jobs (job_of p)))
    → ShowsJobs new (left_after p left) (with_state v (job_of p) f).jobs
shows_with q new left v p f s h shows own k = by (same_job k (job_of p)) refl
  where
    by : (b : Bool) → same_job k (job_of p) ≡ b
        → ShowsJob (is_left k (left_after p left)) (ad_at (Proc k) new) (cond b (option_map (entry_with_state f) (v.jobs (job_of p))) (v.jobs k))
    by true is = subst (λ x. ShowsJob (is_left x (left_after p left)) (ad_at (Proc x) new) (option_map (entry_with_state f) (v.jobs (job_of p)))) (sym (same_job-true k (job_of p) is)) own
    by false is =
        subst (λ b. ShowsJob b (ad_at (Proc k) new) (v.jobs k)) (sym (left_apart p k left is))
        (subst (λ o. ShowsJob (is_left k left) o (v.jobs k)) (sym (ad_elsewhere q new p k s h is)) (shows k))

-- where none does
shows_same : (q new : KeyedAds) (left : List JobId) (jobs : Jobs) (p : JobPlan) → IsQueue q → queue_after q (plan_ops p) ≡ Ok new → ShowsJobs q left jobs
    → ShowsJob (is_left (job_of p) (left_after p left)) (ad_at (Proc (job_of p)) new) (jobs (job_of p)) → ShowsJobs new (left_after p left) jobs
shows_same q new left jobs p s h shows own k = by (same_job k (job_of p)) refl
  where
    by : (b : Bool) → same_job k (job_of p) ≡ b → ShowsJob (is_left k (left_after p left)) (ad_at (Proc k) new) (jobs k)
    by true is = subst (λ x. ShowsJob (is_left x (left_after p left)) (ad_at (Proc x) new) (jobs x)) (sym (same_job-true k (job_of p) is)) own
    by false is =
        subst (λ b. ShowsJob b (ad_at (Proc k) new) (jobs k)) (sym (left_apart p k left is))
        (subst (λ o. ShowsJob (is_left k left) o (jobs k)) (sym (ad_elsewhere q new p k s h is)) (shows k))

-- the job itself, of which the plan leaves an ad
own_with : (left : Bool) (a : Option Attributes) (o : Option Entry) (e : Entry) (ad : Attributes) (f : State → State) → a ≡ Some ad → o ≡ Some e → e.core ≡ core_of ad → ShowsState left ad (f e.state)
    → ShowsJob left a (option_map (entry_with_state f) o)
own_with left a o e ad f is there core stands =
    subst (λ a. ShowsJob left a (option_map (entry_with_state f) o)) (sym is)
    (subst (λ o. ShowsEntry left ad (option_map (entry_with_state f) o)) (sym there) (core, stands))

-- of which it leaves none
own_done : (left : Bool) (a : Option Attributes) (o : Option Entry) (outcome : Outcome) → a ≡ None → ShowsJob left a (option_map (entry_with_state (λ _. state.Done outcome)) o)
own_done left a o outcome is = subst (λ a. ShowsJob left a (option_map (entry_with_state (λ _. state.Done outcome)) o)) (sym is) (by o)
  where
    by : (o : Option Entry) → IfSome (option_map (entry_with_state (λ _. state.Done outcome)) o) (λ e. IsDone e.state)
    by None = tt
    by (Some e) = (outcome, refl)

-- and one whose state stays
own_same : (left : Bool) (a : Option Attributes) (o : Option Entry) (e : Entry) (ad : Attributes) → a ≡ Some ad → o ≡ Some e → e.core ≡ core_of ad → ShowsState left ad e.state → ShowsJob left a o
own_same left a o e ad is there core stands =
    subst (λ a. ShowsJob left a o) (sym is) (subst (λ o. ShowsEntry left ad o) (sym there) (core, stands))

-- a state of one that is under a claim, in another ad with the same run
under_state : (left : Bool) (ad new : Attributes) (s : State) → ShowsState left ad s → kind_of ad ≡ Some kind.Under → kind_of new ≡ Some kind.Under
    → ((claim : ClaimId) (number end : ℕ) → NamesRun ad claim number end → NamesRun new claim number end) → ShowsState left new s
under_state left ad new state.Idle shows under also runs = let clash : Some kind.Idle ≡ Some kind.Under = sym shows ∙ under in cc
under_state left ad new state.Held shows under also runs = let clash : Some kind.Held ≡ Some kind.Under = sym shows ∙ under in cc
under_state left ad new (state.Under run end) shows under also runs = (shows.0, (shows.1.0, shows.1.1, runs shows.1.0 run.number end shows.1.2))
under_state left ad new state.Left shows under also runs = (shows.0, also)
under_state left ad new (state.Done outcome) shows under also runs = shows

lengthened_state : (left : Bool) (ad : Attributes) (until : ℕ) (s : State) → ShowsState left ad s → kind_of ad ≡ Some kind.Under → ShowsState left (lengthened until ad) (with_lease_end until s)
lengthened_state left ad until state.Idle shows under = let clash : Some kind.Idle ≡ Some kind.Under = sym shows ∙ under in cc
lengthened_state left ad until state.Held shows under = let clash : Some kind.Held ≡ Some kind.Under = sym shows ∙ under in cc
lengthened_state left ad until (state.Under run end) shows under = (shows.0, (shows.1.0, shows.1.1, run_lengthened until ad shows.1.0 run.number end shows.1.2))
lengthened_state left ad until state.Left shows under = (shows.0, under_kind (lengthened until ad) (ap is_some (claim_lengthened until ad) ∙ has_claim ad under))
lengthened_state left ad until (state.Done outcome) shows under = shows

-- ---- the jobs after each change
idle_jobs : (v : AbstractPool) (job : JobId) (s : State) → (view_after_all v (change_steps (idle_change job s))).jobs ≡ (with_state v job (λ _. state.Idle)).jobs
idle_jobs v job state.Idle = refl
idle_jobs v job state.Held = refl
idle_jobs v job (state.Under run end) = refl
idle_jobs v job state.Left = refl
idle_jobs v job (state.Done outcome) = refl

held_jobs : (v : AbstractPool) (job : JobId) (s : State) → (view_after_all v (change_steps (held_change job s))).jobs ≡ (with_state v job (λ _. state.Held)).jobs
held_jobs v job state.Idle = refl
held_jobs v job state.Held = refl
held_jobs v job (state.Under run end) = refl
held_jobs v job state.Left = refl
held_jobs v job (state.Done outcome) = refl

module _ (v : AbstractPool) (q new : KeyedAds) (left : List JobId) (o : IsOrdered q) (shows : ShowsJobs q left v.jobs) where
  abbrev Goes : JobPlan → State → Type 0
  Goes p s = ShowsJobs new (left_after p left) (view_after_all v (change_steps (change_at s p))).jobs

  goes_on : (p : JobPlan) → IsFitting q left p → queue_after q (plan_ops p) ≡ Ok new → (s : Shown q left v.jobs (job_of p)) → Goes p s.entry.state
  unfolding plan_ad
  goes_on (plan.PutIdle job) fits h s = subst (λ js. ShowsJobs new (taken_off job left) js) (sym (idle_jobs v job s.entry.state))
      (shows_with q new left v (plan.PutIdle job) (λ _. state.Idle) o.keys h shows
      (own_with (is_left job (taken_off job left)) (ad_at (Proc job) new) (v.jobs job) s.entry (runless (with_status 1 s.ad)) (λ _. state.Idle) (ad_of_plan q new (plan.PutIdle job) s.ad o.keys h s.ad_is) s.entry_is
      (s.core ∙ sym (core_runless (with_status 1 s.ad) ∙ core_status 1 s.ad)) (idle_kind s.ad (o.names (Proc job) s.ad s.ad_is))))
  goes_on (plan.PutHeld job reason) fits h s = subst (λ js. ShowsJobs new (taken_off job left) js) (sym (held_jobs v job s.entry.state))
      (shows_with q new left v (plan.PutHeld job reason) (λ _. state.Held) o.keys h shows
      (own_with (is_left job (taken_off job left)) (ad_at (Proc job) new) (v.jobs job) s.entry (runless (marked_held reason s.ad)) (λ _. state.Held) (ad_of_plan q new (plan.PutHeld job reason) s.ad o.keys h s.ad_is) s.entry_is
      (s.core ∙ sym (core_runless (marked_held reason s.ad) ∙ core_marked reason s.ad)) (held_kind reason s.ad (o.names (Proc job) s.ad s.ad_is))))
  goes_on (plan.Complete job completion) fits h s = by s.entry.state s.stands
    where
      under : kind_of s.ad ≡ Some kind.Under
      under = kind_there q job s.ad fits.0 s.ad_is

      by : (st : State) → ShowsState (is_left job left) s.ad st → ShowsJobs new (taken_off job left) (view_after_all v (change_steps (complete_change job completion st))).jobs
      by state.Idle stands = let clash : Some kind.Idle ≡ Some kind.Under = sym stands ∙ under in cc
      by state.Held stands = let clash : Some kind.Held ≡ Some kind.Under = sym stands ∙ under in cc
      by (state.Under run end) stands = shows_with q new left v (plan.Complete job completion) (λ _. state.Done (EndedBy run (how_of completion))) o.keys h shows
          (own_done (is_left job (taken_off job left)) (ad_at (Proc job) new) (v.jobs job) (EndedBy run (how_of completion)) (ad_of_plan q new (plan.Complete job completion) s.ad o.keys h s.ad_is))
      by state.Left stands = let clash : true ≡ false = sym stands.0 ∙ fits.1 in cc
      by (state.Done outcome) stands = absurd stands
  goes_on (plan.Remove job) fits h s = shows_with q new left v (plan.Remove job) (λ _. state.Done Removed) o.keys h shows
      (own_done (is_left job (taken_off job left)) (ad_at (Proc job) new) (v.jobs job) Removed (ad_of_plan q new (plan.Remove job) s.ad o.keys h s.ad_is))
  goes_on (plan.MarkRemoved job) fits h s =
      let under = kind_there q job s.ad fits s.ad_is in
      shows_same q new left v.jobs (plan.MarkRemoved job) o.keys h shows
      (own_same (is_left job left) (ad_at (Proc job) new) (v.jobs job) s.entry (with_status 3 s.ad) (ad_of_plan q new (plan.MarkRemoved job) s.ad o.keys h s.ad_is) s.entry_is (s.core ∙ sym (core_status 3 s.ad))
      (under_state (is_left job left) s.ad (with_status 3 s.ad) s.entry.state s.stands under (under_kind (with_status 3 s.ad) (ap is_some (claim_status 3 s.ad) ∙ has_claim s.ad under)) (run_status 3 s.ad)))
  goes_on (plan.MarkHeld job reason) fits h s =
      let under = kind_there q job s.ad fits s.ad_is in
      shows_same q new left v.jobs (plan.MarkHeld job reason) o.keys h shows
      (own_same (is_left job left) (ad_at (Proc job) new) (v.jobs job) s.entry (marked_held reason s.ad) (ad_of_plan q new (plan.MarkHeld job reason) s.ad o.keys h s.ad_is) s.entry_is (s.core ∙ sym (core_marked reason s.ad))
      (under_state (is_left job left) s.ad (marked_held reason s.ad) s.entry.state s.stands under (under_kind (marked_held reason s.ad) (ap is_some (claim_marked reason s.ad) ∙ has_claim s.ad under)) (run_marked reason s.ad)))
  goes_on (plan.MarkRunning job) fits h s =
      let under = kind_there q job s.ad fits s.ad_is in
      shows_same q new left v.jobs (plan.MarkRunning job) o.keys h shows
      (own_same (is_left job left) (ad_at (Proc job) new) (v.jobs job) s.entry (with_status 2 s.ad) (ad_of_plan q new (plan.MarkRunning job) s.ad o.keys h s.ad_is) s.entry_is (s.core ∙ sym (core_status 2 s.ad))
      (under_state (is_left job left) s.ad (with_status 2 s.ad) s.entry.state s.stands under (under_kind (with_status 2 s.ad) (ap is_some (claim_status 2 s.ad) ∙ has_claim s.ad under)) (run_status 2 s.ad)))
  goes_on (plan.Lengthen job until) fits h s =
      shows_with q new left v (plan.Lengthen job until) (with_lease_end until) o.keys h shows
      (own_with (is_left job left) (ad_at (Proc job) new) (v.jobs job) s.entry (lengthened until s.ad) (with_lease_end until) (ad_of_plan q new (plan.Lengthen job until) s.ad o.keys h s.ad_is) s.entry_is (s.core ∙ sym (core_lengthened until s.ad))
      (lengthened_state (is_left job left) s.ad until s.entry.state s.stands (kind_there q job s.ad fits s.ad_is)))
  goes_on (plan.Grant job claim number until header) fits h s =
      shows_with q new left v (plan.Grant job claim number until header) (λ _. state.Under (numbered claim number) until) o.keys h shows
      (own_with (is_left job left) (ad_at (Proc job) new) (v.jobs job) s.entry (granted claim number until s.ad) (λ _. state.Under (numbered claim number) until) (ad_of_plan q new (plan.Grant job claim number until header) s.ad o.keys h s.ad_is) s.entry_is (s.core ∙ sym (core_granted claim number until s.ad))
      (fits.1, (claim, refl, run_granted s.ad claim number until fits.2)))

  -- a logged plan does to the jobs what its change does
  pub jobs_after_plan : (p : JobPlan) → IsFitting q left p → queue_after q (plan_ops p) ≡ Ok new → ShowsJobs new (left_after p left) (view_after_all v (change_steps (change_of v.jobs p))).jobs
  jobs_after_plan p fits h =
      let s = shown q left v.jobs (job_of p) shows (plan_there q left p fits) in
      subst (λ e. ShowsJobs new (left_after p left) (view_after_all v (change_steps (change_by e p))).jobs) (sym s.entry_is) (goes_on p fits h s)
