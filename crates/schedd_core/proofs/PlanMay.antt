-- What the schedd sees is the protocol's condition for the change that it plans.
use Rattle.std.proofs.Common.{◌≡◌, ◌⊎◌, inl, inr, ℕ, ◌≤◌, Bool, true, false, cond, ◌&&◌, ◌||◌, ◌==◌, List, [], ◌∷◌, Option, Some, None, is_some, IsSomeAnd, refl, ap, sym, ◌∙◌, subst}
use Rattle.std.proofs.lemmas.Bool.{eqb-true}
use Rattle.ad_value.specs.Content.{text}
use Rattle.ad_tree.specs.Tree.{Tree, literal}
use Rattle.ad_tree.specs.Ad.{Attributes}
use Rattle.claim_id.specs.declared.numbers.ClaimId.{ClaimId}
use Rattle.claim_id.specs.declared.numbers.ClaimNo.{ClaimNo}
use Rattle.claim_id.specs.declared.numbers.JobId.{JobId}
use Rattle.claim_id.specs.declared.numbers.RunNo.{RunNo}
use Rattle.claim_id.proofs.OneText.{one_claim}
use Rattle.pool_mail.specs.declared.end.How.{How}
use Rattle.pool_mail.specs.declared.end.How.TheVariants as how
use Rattle.pool_view.specs.Protocol.{Protocol}
use Rattle.pool_view.specs.ProtocolMove.{IsSaidOver, MayLetGo, MayPend, MayAll}
use Rattle.pool_view.specs.AbstractPool.{IsIn, Stands}
use Rattle.pool_view.specs.AbstractStep.{IsWaiting}
use Rattle.pool_view.specs.Ads.{core_of}
use Rattle.pool_view.specs.Numbers.{same_job, same_slot, same_claim}
use Rattle.pool_view.specs.declared.job.Entry.{Entry}
use Rattle.pool_view.specs.declared.job.State.{State}
use Rattle.pool_view.specs.declared.job.State.TheVariants as state
use Rattle.pool_view.proofs.Sameness.{both_true, same_job-true, same_job-same, same_slot-true}
use Rattle.queue_tx.specs.declared.key.Key.TheVariants.{Proc}
use Rattle.queue_tx.specs.declared.kind.JobKind.TheVariants as kind
use Rattle.queue_tx.specs.Kinds.{kind_of}
use Rattle.queue_tx.specs.Queues.{KeyedAds, ad_at}
use Rattle.schedd_plan.specs.declared.plan.Completion.{Completion}
use Rattle.schedd_plan.specs.declared.plan.Completion.TheVariants as completion
use Rattle.schedd_plan.specs.declared.plan.JobPlan.{JobPlan}
use Rattle.schedd_plan.specs.declared.plan.JobPlan.TheVariants as plan
use Rattle.schedd_plan.specs.declared.reason.Reason.{Reason}
use Rattle.schedd_plan.specs.declared.status.JobStatus.{JobStatus}
use Rattle.schedd_plan.specs.declared.status.JobStatus.TheVariants as status
use Rattle.schedd_plan.specs.Plans.{job_of}
use Rattle.schedd_plan.specs.JobAttributes.{status_of}
use Rattle.schedd_plan.specs.declared.runs.KeptRun.{KeptRun}
use Rattle.schedd_plan.specs.EndTable.{is_asked_by, ad_after_exit, is_remove_asked, plan_at_end, completed_plan, unmarked_plan, failed_plan, completion_of, plan_of_end, ended_ad_plan}
use Rattle.schedd_plan.specs.JobPlaces.{is_left, let_go_by, let_go_in, let_go}
use Rattle.schedd_plan.specs.KeptRuns.{run_of, is_run}
use Rattle.schedd_core.specs.JobStates.{NamesRun, ShowsState}
use Rattle.schedd_core.specs.PlanChanges.{idle_change, held_change, change_at, change_by, how_of, pends}
use Rattle.schedd_core.specs.ScheddParts.{IsPart, IsUnderRun}
use Rattle.schedd_state.specs.Schedds.{ScheddValue}
use Rattle.schedd_core.proofs.PlanAds.{run_kind}
use Rattle.schedd_core.proofs.PlanJobs.{shown_at}

-- ---- the run of an ad is one
text_of : Option Tree → List ℕ
text_of (Some (literal (text bytes))) = bytes
text_of _ = []

number_of : Option ℕ → ℕ
number_of None = 0
number_of (Some n) = n

pub one_run : (ad : Attributes) (a b : ClaimId) (m n x y : ℕ) → NamesRun ad a m x → NamesRun ad b n y → (a ≡ b) × (m ≡ n) × (x ≡ y)
unfolding text_of number_of
one_run ad a b m n x y r s =
    (one_claim a b r.valid s.valid (ap text_of (sym r.claim_is ∙ s.claim_is)), ap number_of (sym r.number_is ∙ s.number_is), ap number_of (sym r.end_is ∙ s.end_is))

-- a job that an ad shows under a run stands under that run
pub stands_under : (left : Bool) (ad : Attributes) (s : State) (claim : ClaimId) (number end : ℕ) → left ≡ false → NamesRun ad claim number end → ShowsState left ad s
    → s ≡ state.Under (record { claim = claim.no; number = number }) end
stands_under left ad state.Idle claim number end not_left names shows = let clash : Some kind.Idle ≡ Some kind.Under = sym shows ∙ run_kind ad claim number end names in cc
stands_under left ad state.Held claim number end not_left names shows = let clash : Some kind.Held ≡ Some kind.Under = sym shows ∙ run_kind ad claim number end names in cc
stands_under left ad (state.Under run until) claim number end not_left names shows =
    let same = one_run ad shows.1.0 claim run.number number until end shows.1.2 names in
    let claims : run.claim ≡ claim.no = sym shows.1.1 ∙ ap (λ c. c.no) same.0 in
    λ i. state.Under (record { claim = claims i; number = same.1 i }) (same.2 i)
stands_under left ad state.Left claim number end not_left names shows = let clash : true ≡ false = sym shows.0 ∙ not_left in cc
stands_under left ad (state.Done outcome) claim number end not_left names shows = absurd shows

pub shown_is : (o : Option Entry) (e : Entry) (P : State → Type 0) → o ≡ Some e → P e.state → IsSomeAnd o (λ e. P e.state)
shown_is o e P is holds = subst (λ o. IsSomeAnd o (λ e. P e.state)) (sym is) holds

-- ---- runs by their numbers
pub same_claim-true : (a b : ClaimNo) → same_claim a b ≡ true → a ≡ b
same_claim-true a b h =
    let both = both_true (same_slot a.slot b.slot) ((a.boot == b.boot) && (a.seq == b.seq)) h in
    let rest = both_true (a.boot == b.boot) (a.seq == b.seq) both.1 in
    let slot : a.slot ≡ b.slot = same_slot-true a.slot b.slot both.0 in
    let boot : a.boot ≡ b.boot = eqb-true a.boot b.boot rest.0 in
    let seq : a.seq ≡ b.seq = eqb-true a.seq b.seq rest.1 in
    λ i. record { slot = slot i; boot = boot i; seq = seq i }

pub is_run-true : (run : RunNo) (r : KeptRun) → is_run run r ≡ true → run_of r ≡ run
is_run-true run r h =
    let both = both_true (same_claim r.claim.no run.claim) (r.number == run.number) h in
    let claim : r.claim.no ≡ run.claim = same_claim-true r.claim.no run.claim both.0 in
    let number : r.number ≡ run.number = eqb-true r.number run.number both.1 in
    λ i. record { claim = claim i; number = number i }

pub in_left : (job : JobId) (left : List JobId) → IsIn job left → is_left job left ≡ true
in_left job [] h = absurd h
in_left job (x ∷ xs) (inl same) = ap (λ b. b || is_left job xs) (ap (λ y. same_job y job) (sym same) ∙ same_job-same job)
in_left job (x ∷ xs) (inr h) = ap (λ b. same_job x job || b) (in_left job xs h) ∙ or_true (same_job x job)
  where
    or_true : (b : Bool) → (b || true) ≡ true
    or_true true = refl
    or_true false = refl

pub left_in : (job : JobId) (left : List JobId) → is_left job left ≡ true → IsIn job left
left_in job [] h = cc
left_in job (x ∷ xs) h = by (same_job x job) refl h (left_in job xs)
  where
    by : (b : Bool) → same_job x job ≡ b → (b || is_left job xs) ≡ true → (is_left job xs ≡ true → IsIn job xs) → (job ≡ x) ⊎ IsIn job xs
    by true is h rest = inl (sym (same_job-true x job is))
    by false is h rest = inr (rest h)

module _ (p : Protocol) (q : KeyedAds) (v : ScheddValue) (part : IsPart p q v) where
  -- ---- a job that is under a run of this boot
  pub record UnderRun (r : KeptRun) : Type 0 where
    pub ad : Attributes
    pub ad_is : ad_at (Proc r.job) q ≡ Some ad
    pub not_left : is_left r.job v.left ≡ false
    pub end : ℕ
    pub names : NamesRun ad r.claim r.number end
    pub entry : Entry
    pub entry_is : p.pool.jobs r.job ≡ Some entry
    pub core : entry.core ≡ core_of ad
    pub state_is : entry.state ≡ state.Under (run_of r) end

  pub under_run : (r : KeptRun) → IsUnderRun q v.left r → UnderRun r
  under_run r under = by (ad_at (Proc r.job) q) refl under
    where
      by : (o : Option Attributes) → ad_at (Proc r.job) q ≡ o → IsSomeAnd o (λ ad. (is_left r.job v.left ≡ false) × ((end : ℕ) × NamesRun ad r.claim r.number end)) → UnderRun r
      by None is h = absurd h
      by (Some ad) is h =
          let names = h.1.1 in
          let s = shown_at q v.left p.pool.jobs r.job ad part.jobs is (ap is_some (run_kind ad r.claim r.number h.1.0 names)) in
          let same : s.ad ≡ ad = some_is s.ad ad (sym s.ad_is ∙ is) in
          record {
            ad = ad;
            ad_is = is;
            not_left = h.0;
            end = h.1.0;
            names = names;
            entry = s.entry;
            entry_is = s.entry_is;
            core = s.core ∙ ap core_of same;
            state_is = stands_under (is_left r.job v.left) ad s.entry.state r.claim r.number h.1.0 h.0 names (subst (λ a. ShowsState (is_left r.job v.left) a s.entry.state) same s.stands);
          }
        where
          some_is : (a b : Attributes) → Some a ≡ Some b → a ≡ b
          some_is a b e = cc

  pub stands_as : (r : KeptRun) (u : UnderRun r) → Stands p.pool r.job (state.Under (run_of r) u.end)
  stands_as r u = shown_is (p.pool.jobs r.job) u.entry (λ s. s ≡ state.Under (run_of r) u.end) u.entry_is u.state_is

  -- ---- letting a job go
  module _ (job : JobId) (go : IsSomeAnd (p.pool.jobs job) (λ e. MayLetGo p e.state)) where
    pub may_idle : (s : State) → MayLetGo p s → MayPend p (idle_change job s)
    may_idle state.Idle h = absurd h
    may_idle state.Held h = absurd h
    may_idle (state.Under run end) h = (inl refl, go)
    may_idle state.Left h = (inl refl, go)
    may_idle (state.Done outcome) h = absurd h

    pub may_held : (s : State) → MayLetGo p s → MayPend p (held_change job s)
    may_held state.Idle h = absurd h
    may_held state.Held h = absurd h
    may_held (state.Under run end) h = (inr refl, go)
    may_held state.Left h = (inr refl, go)
    may_held (state.Done outcome) h = absurd h

    or_over : IsSomeAnd (p.pool.jobs job) (λ e. IsWaiting e.state ⊎ MayLetGo p e.state)
    or_over = by (p.pool.jobs job) go
      where
        by : (o : Option Entry) → IsSomeAnd o (λ e. MayLetGo p e.state) → IsSomeAnd o (λ e. IsWaiting e.state ⊎ MayLetGo p e.state)
        by None h = h
        by (Some e) h = inr h

    pub may_remove : IsIn job p.removals → (s : State) → MayPend p (change_at s (plan.Remove job))
    may_remove marked s = (inr marked, or_over)

    pub may_let_go_by : (st : JobStatus) (ad : Attributes) → (st ≡ status.Removed → IsIn job p.removals) → (s : State) → MayLetGo p s → MayPend p (change_at s (let_go_by st job ad))
    may_let_go_by status.Held ad marked s h = may_held s h
    may_let_go_by status.Removed ad marked s h = may_remove (marked refl) s
    may_let_go_by status.Idle ad marked s h = may_idle s h
    may_let_go_by status.Running ad marked s h = may_idle s h
    may_let_go_by status.Completed ad marked s h = may_idle s h
    may_let_go_by status.Other ad marked s h = may_idle s h

  -- a job that is marked as to be removed was ordered to be
  pub marked_job : (job : JobId) (ad : Attributes) → ad_at (Proc job) q ≡ Some ad → kind_of ad ≡ Some kind.Under → status_of ad ≡ status.Removed → IsIn job p.removals
  marked_job job ad is under removed = part.marked job (subst (λ o. IsSomeAnd o (λ ad. (status_of ad ≡ status.Removed) × (kind_of ad ≡ Some kind.Under))) (sym is) (removed, under))

  let_go_is : (job : JobId) (ad : Attributes) → ad_at (Proc job) q ≡ Some ad → let_go q job ≡ let_go_by (status_of ad) job ad
  let_go_is job ad is = ap (λ o. let_go_in o job) is

  pub may_let_go : (job : JobId) (ad : Attributes) (e : Entry) → ad_at (Proc job) q ≡ Some ad → kind_of ad ≡ Some kind.Under → p.pool.jobs job ≡ Some e → MayLetGo p e.state → MayPend p (change_at e.state (let_go q job))
  may_let_go job ad e is under there h =
      subst (λ pl. MayPend p (change_at e.state pl)) (sym (let_go_is job ad is))
      (may_let_go_by job (shown_is (p.pool.jobs job) e (MayLetGo p) there h) (status_of ad) ad (marked_job job ad is under) e.state h)

  -- ---- a run that is over
  over_state : (r : KeptRun) (u : UnderRun r) → IsSaidOver p (run_of r) ⊎ (u.end ≤ p.pool.moment) → MayLetGo p u.entry.state
  over_state r u over = subst (MayLetGo p) (sym u.state_is) over

  pub may_free : (r : KeptRun) (u : UnderRun r) → IsSaidOver p (run_of r) ⊎ (u.end ≤ p.pool.moment) → MayPend p (change_at u.entry.state (let_go q r.job))
  may_free r u over = may_let_go r.job u.ad u.entry u.ad_is (run_kind u.ad r.claim r.number u.end u.names) u.entry_is (over_state r u over)

  how_is : (h : How) (c : Completion) → completion_of h ≡ Some c → h ≡ how_of c
  how_is (how.Exited code) (completion.Exited other) e = cc
  how_is (how.Exited code) (completion.Signalled other) e = cc
  how_is (how.Signalled signal) (completion.Exited other) e = cc
  how_is (how.Signalled signal) (completion.Signalled other) e = cc
  how_is how.NotStarted c e = cc
  how_is how.Evicted c e = cc
  how_is how.Stopped c e = cc

  module _ (r : KeptRun) (u : UnderRun r) (h : How) (said : (k : JobId) × IsIn (record { run = run_of r; job = k; how = h }) p.pool.reports) where
    over : IsSaidOver p (run_of r)
    over = inr (record { run = run_of r; job = said.0; how = h }, said.1, refl)

    lets_go : MayLetGo p u.entry.state
    lets_go = over_state r u (inl over)

    go_at : IsSomeAnd (p.pool.jobs r.job) (λ e. MayLetGo p e.state)
    go_at = shown_is (p.pool.jobs r.job) u.entry (MayLetGo p) u.entry_is lets_go

    idles : MayPend p (change_at u.entry.state (plan.PutIdle r.job))
    idles = may_idle r.job go_at u.entry.state lets_go

    holds : (reason : Reason) → MayPend p (change_at u.entry.state (plan.PutHeld r.job reason))
    holds reason = may_held r.job go_at u.entry.state lets_go

    completes : (c : Completion) → h ≡ how_of c → MayPend p (change_at u.entry.state (plan.Complete r.job c))
    completes c is = subst (λ s. MayPend p (change_at s (plan.Complete r.job c))) (sym u.state_is) (by c is)
      where
        by : (c : Completion) → h ≡ how_of c → MayPend p (change_at (state.Under (run_of r) u.end) (plan.Complete r.job c))
        by (completion.Exited code) e = ((u.end, stands_as r u), (said.0, subst (λ x. IsIn (record { run = run_of r; job = said.0; how = x }) p.pool.reports) e said.1), tt)
        by (completion.Signalled signal) e = ((u.end, stands_as r u), (said.0, subst (λ x. IsIn (record { run = run_of r; job = said.0; how = x }) p.pool.reports) e said.1), tt)

    by_policy : (c : Completion) (reading : ℕ) → h ≡ how_of c → (hold remove : Bool)
        → MayPend p (change_at u.entry.state (cond hold (plan.PutHeld r.job Rattle.schedd_plan.specs.declared.reason.Reason.TheVariants.ByPolicy) (cond remove (plan.Complete r.job c) (plan.PutIdle r.job))))
    by_policy c reading is true remove = holds Rattle.schedd_plan.specs.declared.reason.Reason.TheVariants.ByPolicy
    by_policy c reading is false true = completes c is
    by_policy c reading is false false = idles

    at_end : (c : Completion) (reading : ℕ) → h ≡ how_of c → MayPend p (change_at u.entry.state (plan_at_end r.job u.ad c reading))
    at_end c reading is = by_policy c reading is (is_asked_by (ad_after_exit c u.ad) reading Rattle.ad_value.specs.declared.names.job.TheConstants.ON_EXIT_HOLD.now) (is_remove_asked (ad_after_exit c u.ad) reading)

    marked : status_of u.ad ≡ status.Removed → IsIn r.job p.removals
    marked = marked_job r.job u.ad u.ad_is (run_kind u.ad r.claim r.number u.end u.names)

    completed : (st : JobStatus) (c : Completion) (reading : ℕ) → h ≡ how_of c → (st ≡ status.Removed → IsIn r.job p.removals) → MayPend p (change_at u.entry.state (completed_plan st r.job u.ad c reading))
    completed status.Idle c reading is m = at_end c reading is
    completed status.Running c reading is m = at_end c reading is
    completed status.Removed c reading is m = may_remove r.job go_at (m refl) u.entry.state
    completed status.Completed c reading is m = at_end c reading is
    completed status.Held c reading is m = completes c is
    completed status.Other c reading is m = at_end c reading is

    unmarked : (x : How) → MayPend p (change_at u.entry.state (unmarked_plan r.job x))
    unmarked (how.Exited code) = idles
    unmarked (how.Signalled signal) = idles
    unmarked how.NotStarted = holds Rattle.schedd_plan.specs.declared.reason.Reason.TheVariants.FailedToStart
    unmarked how.Evicted = idles
    unmarked how.Stopped = idles

    failed : (st : JobStatus) → MayPend p (change_at u.entry.state (failed_plan st r.job u.ad h))
    failed status.Idle = unmarked h
    failed status.Running = unmarked h
    failed status.Removed = may_let_go_by r.job go_at (status_of u.ad) u.ad marked u.entry.state lets_go
    failed status.Completed = unmarked h
    failed status.Held = may_let_go_by r.job go_at (status_of u.ad) u.ad marked u.entry.state lets_go
    failed status.Other = unmarked h

    pub may_end : (reading : ℕ) → MayPend p (change_at u.entry.state (ended_ad_plan r.job u.ad h reading))
    unfolding ended_ad_plan
    may_end reading = by (completion_of h) refl
      where
        by : (o : Option Completion) → completion_of h ≡ o → MayPend p (change_at u.entry.state (plan_of_end o r.job u.ad h reading))
        by None e = failed (status_of u.ad)
        by (Some c) e = completed (status_of u.ad) c reading (how_is h c e) marked

  -- ---- the plan is handed to the log
  module _ (idle : p.pending ≡ None) where
    pub pend_may : (pl : JobPlan) (e : Entry) → p.pool.jobs (job_of pl) ≡ Some e → MayPend p (change_at e.state pl) → MayAll p (pends p.pool.jobs (Some pl))
    pend_may pl e there h = ((idle, subst (λ o. MayPend p (change_by o pl)) (sym there) h), tt)
