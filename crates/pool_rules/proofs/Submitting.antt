-- A submission that is handed to the log, and one that is logged, keep the links.
use Rattle.std.proofs.Common.{◌≡◌, ◌⊎◌, inl, inr, ℕ, Bool, true, false, cond, List, [], ◌∷◌, ◌++◌, map, Option, Some, None, IfSome, IsSome, IsSomeAnd, refl, sym, ◌∙◌, ap, subst}
use Rattle.std.specs.Prelude.{Ok}
use Rattle.ad_tree.specs.Ad.{Attributes}
use Rattle.claim_id.specs.declared.numbers.JobId.{JobId}
use Rattle.pool_view.specs.AbstractPool.{AbstractPool, IsIn, SameMembers}
use Rattle.pool_view.specs.AbstractStep.{view_after}
use Rattle.pool_view.specs.Ads.{core_of}
use Rattle.pool_view.specs.Numbers.{same_job}
use Rattle.pool_view.specs.declared.job.Entry.{Entry}
use Rattle.pool_view.specs.declared.job.State.TheVariants as state
use Rattle.pool_view.proofs.Sameness.{same_job-true, same_job-same}
use Rattle.pool_view.specs.Facts.{CanBeMade}
use Rattle.pool_view.specs.Protocol.{AreNew, JobRun, NewJob, Protocol, Submission, jobs_with, pending_steps, queue_step, view_after_all}
use Rattle.pool_view.specs.ProtocolMove.{ProtocolMove, Commit, Confirm, MayAll, Pend, confirm_move, grants_with_all, protocol_after, protocol_after_all, removals_with}
use Rattle.pool_view.proofs.SeveralMoves.{commit_submission}
use Rattle.queue_tx.specs.declared.key.Key.TheVariants.{Proc}
use Rattle.queue_tx.specs.declared.kind.JobKind.TheVariants as kind
use Rattle.queue_tx.specs.Kinds.{kind_of}
use Rattle.queue_tx.specs.Operations.{Operation}
use Rattle.queue_tx.specs.Queues.{KeyedAds, ad_at, queue_after}
use Rattle.schedd_plan.specs.JobPlaces.{is_left}
use Rattle.schedd_core.specs.JobStates.{ShowsEntry, ShowsJob, ShowsJobs}
use Rattle.schedd_state.specs.Reopening.{is_under_at, is_under_kind, under_by}
use Rattle.schedd_core.specs.ScheddParts.{Fits, IsMarked, IsPart}
use Rattle.schedd_core.proofs.FitsAfter.{run_is_under}
use Rattle.pool_rules.specs.Linked.{BringsJobs, IsPlaced, IsFinishedAs, AwaitsJobs, AwaitsNothing, IsLinked, StayLinked, new_job_id}
use Rattle.pool_rules.specs.PoolParts.{PoolParts}
use Rattle.pool_rules.specs.ScheddEvents.{AreNewJobs, IsNotAmong, parts_with_jobs, parts_with_submission}
use Rattle.pool_rules.proofs.Going.{GoesOn, goes_on}
use Rattle.pool_rules.proofs.Kept.{in_both, in_first, in_second}
use Rattle.pool_rules.proofs.ScheddKept.{AreOffSlots, KeepsSaid, commit_said, nothing_more, schedd_event}
use Rattle.pool_rules.proofs.ScheddPlans.{was_idle}

-- ---- new jobs
abbrev pub IsNone : JobId → List NewJob → Type 0
IsNone job jobs = (j : NewJob) → IsIn j jobs → job ≡ j.job → ⊥

abbrev pub OneOrNone : JobId → List NewJob → Type 0
OneOrNone job jobs = ((j : NewJob) × IsIn j jobs × (job ≡ j.job)) ⊎ IsNone job jobs

pub one_or_none : (job : JobId) (jobs : List NewJob) → OneOrNone job jobs
one_or_none job [] = inr (λ j there. absurd there)
one_or_none job (x ∷ xs) = by (same_job job x.job) refl (one_or_none job xs)
  where
    none : same_job job x.job ≡ false → IsNone job xs → IsNone job (x ∷ xs)
    none far rest j (inl same) is = let clash : true ≡ false = sym (same_job-same job) ∙ (ap (same_job job) (is ∙ ap (λ (y : NewJob). y.job) same) ∙ far) in cc
    none far rest j (inr there) is = rest j there is

    later : same_job job x.job ≡ false → OneOrNone job xs → OneOrNone job (x ∷ xs)
    later far (inl found) = inl (found.0, inr found.1, found.2)
    later far (inr rest) = inr (none far rest)

    by : (b : Bool) → same_job job x.job ≡ b → OneOrNone job xs → OneOrNone job (x ∷ xs)
    by true is rest = inl (x, inl refl, same_job-true job x.job is)
    by false is rest = later is rest

set_cases : (jobs : JobId → Option Entry) (x : NewJob) (k : JobId) (P : Option Entry → Type 0) → (x.job ≡ k → P (Some (record { core = x.core; state = state.Idle }))) → (same_job k x.job ≡ false → P (jobs k)) → P (jobs_with jobs x k)
set_cases jobs x k P here far = by (same_job k x.job) refl
  where
    by : (b : Bool) → same_job k x.job ≡ b → P (cond b (Some (record { core = x.core; state = state.Idle })) (jobs k))
    by true is = here (sym (same_job-true k x.job is))
    by false is = far is

some_there : (jobs : JobId → Option Entry) (x : NewJob) (k : JobId) → IsSome (jobs k) → IsSome (jobs_with jobs x k)
some_there jobs x k some = set_cases jobs x k (λ o. IsSome o) (λ same. refl) (λ far. some)

none_was : (jobs : JobId → Option Entry) (x : NewJob) (k : JobId) → jobs_with jobs x k ≡ None → jobs k ≡ None
none_was jobs x k = set_cases jobs x k (λ o. o ≡ None → jobs k ≡ None) (λ same is. cc) (λ far is. is)

-- each new job wasn't there
pub new_was_none : (jobs : JobId → Option Entry) (js : List NewJob) (j : NewJob) → AreNew jobs js → IsIn j js → jobs j.job ≡ None
new_was_none jobs [] j new there = absurd there
new_was_none jobs (x ∷ xs) j new (inl same) = ap (λ (y : NewJob). jobs y.job) same ∙ new.0
new_was_none jobs (x ∷ xs) j new (inr there) = none_was jobs x j.job (new_was_none (jobs_with jobs x) xs j new.1 there)

-- a job that is there is none of them
there_is_none : (jobs : JobId → Option Entry) (js : List NewJob) (k : JobId) → AreNew jobs js → IsSome (jobs k) → IsNone k js
there_is_none jobs js k new some j there same = none_some (jobs k) (ap jobs same ∙ new_was_none jobs js j new there) some
  where
    none_some : (o : Option Entry) → o ≡ None → IsSome o → ⊥
    none_some None is h = cc
    none_some (Some e) is h = cc

-- the jobs once they are queued
pub queued_other : (v : AbstractPool) (js : List NewJob) (k : JobId) → IsNone k js → (view_after_all v (map queue_step js)).jobs k ≡ v.jobs k
queued_other v [] k none = refl
queued_other v (x ∷ xs) k none =
    queued_other (view_after v (queue_step x)) xs k (λ j there. none j (inr there))
    ∙ set_cases v.jobs x k (λ o. o ≡ v.jobs k) (λ same. absurd (none x (inl refl) (sym same))) (λ far. refl)

pub queued_one : (v : AbstractPool) (js : List NewJob) (j : NewJob) → AreNew v.jobs js → IsIn j js → (view_after_all v (map queue_step js)).jobs j.job ≡ Some (record { core = j.core; state = state.Idle })
queued_one v [] j new there = absurd there
queued_one v (x ∷ xs) j new (inl same) =
    let here : jobs_with v.jobs x x.job ≡ Some (record { core = x.core; state = state.Idle }) = ap (λ b. cond b (Some (record { core = x.core; state = state.Idle })) (v.jobs x.job)) (same_job-same x.job) in
    let some : IsSome (jobs_with v.jobs x x.job) = subst (λ (o : Option Entry). IsSome o) (sym here) refl in
    let own : (view_after_all (view_after v (queue_step x)) (map queue_step xs)).jobs x.job ≡ Some (record { core = x.core; state = state.Idle }) =
    queued_other (view_after v (queue_step x)) xs x.job (there_is_none (jobs_with v.jobs x) xs x.job new.1 some) ∙ here in
    subst (λ y. (view_after_all (view_after v (queue_step x)) (map queue_step xs)).jobs y.job ≡ Some (record { core = y.core; state = state.Idle })) (sym same) own
queued_one v (x ∷ xs) j new (inr there) = queued_one (view_after v (queue_step x)) xs j new.1 there

queued_rest : (v : AbstractPool) (js : List NewJob) → ((view_after_all v (map queue_step js)).next ≡ v.next) × ((view_after_all v (map queue_step js)).marks ≡ v.marks)
queued_rest v [] = (refl, refl)
queued_rest v (x ∷ xs) = let rest = queued_rest (view_after v (queue_step x)) xs in (rest.0, rest.1)

queued_grants : (js : List NewJob) (gs : List JobRun) → grants_with_all (map queue_step js) gs ≡ gs
queued_grants [] gs = refl
queued_grants (x ∷ xs) gs = queued_grants xs gs

-- ---- the queue that came of a submission
module _ (p : Protocol) (a : PoolParts) (ids : List JobId) (tx : List Operation) (new : KeyedAds) (linked : IsLinked p a) (w : AwaitsJobs p a ids tx) (h : queue_after a.queue tx ≡ Ok new) where
  abbrev pub x : Protocol
  x = protocol_after p Commit

  brings : BringsJobs a.queue w.jobs new
  brings = w.brings new h

  are_new : AreNew p.pool.jobs w.jobs
  are_new = subst (λ c. IfSome c (CanBeMade p.pool)) w.change linked.facts.pending

  -- as the abstract pool has them
  jobs_are : x.pool.jobs ≡ (view_after_all p.pool (map queue_step w.jobs)).jobs
  jobs_are = ap (λ c. (view_after_all p.pool (pending_steps c)).jobs) w.change

  record New (job : JobId) : Type 0 where
    ad : Attributes
    ad_is : ad_at (Proc job) new ≡ Some ad
    kind_is : kind_of ad ≡ Some kind.Idle
    entry : Entry
    entry_is : x.pool.jobs job ≡ Some entry
    core : entry.core ≡ core_of ad
    idle : entry.state ≡ state.Idle
    before : p.pool.jobs job ≡ None

  new_job : (j : NewJob) → IsIn j w.jobs → New j.job
  new_job j there = by (ad_at (Proc j.job) new) refl (brings.each j there)
    where
      by : (o : Option Attributes) → ad_at (Proc j.job) new ≡ o → IsSomeAnd o (λ ad. (core_of ad ≡ j.core) × (kind_of ad ≡ Some kind.Idle)) → New j.job
      by None is f = absurd f
      by (Some ad) is f = record {
        ad = ad;
        ad_is = is;
        kind_is = f.1;
        entry = record { core = j.core; state = state.Idle };
        entry_is = ap (λ g. g j.job) jobs_are ∙ queued_one p.pool w.jobs j are_new there;
        core = sym f.0;
        idle = refl;
        before = new_was_none p.pool.jobs w.jobs j are_new there;
      }

  record Old (job : JobId) : Type 0 where
    ad : ad_at (Proc job) new ≡ ad_at (Proc job) a.queue
    entry : x.pool.jobs job ≡ p.pool.jobs job

  old_job : (job : JobId) → IsNone job w.jobs → Old job
  old_job job none = record {
    ad = brings.others job none;
    entry = ap (λ g. g job) jobs_are ∙ queued_other p.pool w.jobs job none;
  }

  either : (job : JobId) → New job ⊎ Old job
  either job = by (one_or_none job w.jobs)
    where
      by : OneOrNone job w.jobs → New job ⊎ Old job
      by (inl found) = inl (subst New (sym found.2) (new_job found.0 found.1))
      by (inr none) = inr (old_job job none)

  shows_then : ShowsJobs new a.schedd.left x.pool.jobs
  shows_then job = by (either job)
    where
      by : New job ⊎ Old job → ShowsJob (is_left job a.schedd.left) (ad_at (Proc job) new) (x.pool.jobs job)
      by (inl n) =
          subst (λ o. ShowsJob (is_left job a.schedd.left) o (x.pool.jobs job)) (sym n.ad_is)
          (subst (ShowsEntry (is_left job a.schedd.left) n.ad) (sym n.entry_is)
          (n.core, subst (λ s. Rattle.schedd_core.specs.JobStates.ShowsState (is_left job a.schedd.left) n.ad s) (sym n.idle) n.kind_is))
      by (inr o) = subst (λ e. ShowsJob (is_left job a.schedd.left) (ad_at (Proc job) new) e) (sym o.entry) (subst (λ ad. ShowsJob (is_left job a.schedd.left) ad (p.pool.jobs job)) (sym o.ad) (linked.schedd.jobs job))

  marked_then : (job : JobId) → IsMarked new job → IsIn job x.removals
  marked_then job marked = subst (λ c. IsIn job (removals_with c p.removals)) (sym w.change) (by (either job))
    where
      by : New job ⊎ Old job → IsIn job p.removals
      by (inl n) =
          let its = subst (λ o. IsSomeAnd o (λ ad. (Rattle.schedd_plan.specs.JobAttributes.status_of ad ≡ Rattle.schedd_plan.specs.declared.status.JobStatus.TheVariants.Removed) × (kind_of ad ≡ Some kind.Under))) n.ad_is marked in
          let clash : Some kind.Idle ≡ Some kind.Under = sym n.kind_is ∙ its.1 in cc
      by (inr o) = linked.schedd.marked job (subst (λ ad. IsSomeAnd ad (λ ad. (Rattle.schedd_plan.specs.JobAttributes.status_of ad ≡ Rattle.schedd_plan.specs.declared.status.JobStatus.TheVariants.Removed) × (kind_of ad ≡ Some kind.Under))) o.ad marked)

  pub part_then : IsPart x new a.schedd
  part_then = record {
    jobs = shows_then;
    next = ap (λ c. (view_after_all p.pool (pending_steps c)).next) w.change ∙ ((queued_rest p.pool w.jobs).0 ∙ linked.schedd.next);
    marked = marked_then;
  }

  pub finished_new : (job : JobId) → IsFinishedAs (ad_at (Proc job) new) (a.finished job) (x.pool.jobs job)
  finished_new job = by (either job)
    where
      never : (o : Option Attributes) → IsFinishedAs o (a.finished job) None → a.finished job ≡ None
      never None is = sym is
      never (Some ad) is = is

      by : New job ⊎ Old job → IsFinishedAs (ad_at (Proc job) new) (a.finished job) (x.pool.jobs job)
      by (inl n) =
          subst (λ o. IsFinishedAs o (a.finished job) (x.pool.jobs job)) (sym n.ad_is)
          (never (ad_at (Proc job) a.queue) (subst (IsFinishedAs (ad_at (Proc job) a.queue) (a.finished job)) n.before (linked.finished job)))
      by (inr o) = subst (λ e. IsFinishedAs (ad_at (Proc job) new) (a.finished job) e) (sym o.entry) (subst (λ ad. IsFinishedAs ad (a.finished job) (p.pool.jobs job)) (sym o.ad) (linked.finished job))

  -- ---- the schedd fits the queue
  -- a new job is under no claim, and wasn't
  new_free : (job : JobId) → New job → is_under_at new job ≡ false
  new_free job n = ap under_by n.ad_is ∙ ap is_under_kind n.kind_is

  was_free : (job : JobId) → New job → is_under_at a.queue job ≡ false
  was_free job n = by (ad_at (Proc job) a.queue) (subst (ShowsJob (is_left job a.schedd.left) (ad_at (Proc job) a.queue)) n.before (linked.schedd.jobs job))
    where
      by : (o : Option Attributes) → ShowsJob (is_left job a.schedd.left) o None → under_by o ≡ false
      by None shows = refl
      by (Some ad) shows = ap is_under_kind shows

  was_under : (job : JobId) → is_under_at a.queue job ≡ true → ad_at (Proc job) new ≡ ad_at (Proc job) a.queue
  was_under job under = by (either job)
    where
      by : New job ⊎ Old job → ad_at (Proc job) new ≡ ad_at (Proc job) a.queue
      by (inl n) = let clash : true ≡ false = sym under ∙ was_free job n in cc
      by (inr o) = o.ad

  under_before : (job : JobId) → is_under_at new job ≡ true → is_under_at a.queue job ≡ true
  under_before job under = by (either job)
    where
      by : New job ⊎ Old job → is_under_at a.queue job ≡ true
      by (inl n) = let clash : true ≡ false = sym under ∙ new_free job n in cc
      by (inr o) = ap under_by (sym o.ad) ∙ under

  pub fits_new : Fits new a.schedd
  fits_new = record {
    queue = brings.queue;
    each = λ r there. (let was = w.fits.each r there in
        subst (λ o. IsSomeAnd o (λ ad. (is_left r.job a.schedd.left ≡ false) × ((end : ℕ) × Rattle.schedd_core.specs.JobStates.NamesRun ad r.claim r.number end))) (sym (was_under r.job (run_is_under a.queue a.schedd.left r was))) was);
    one = w.fits.one;
    all = λ job under not_left. w.fits.all job (under_before job under) not_left;
    under = λ job there. (let was = w.fits.under job there in ap under_by (was_under job was) ∙ was);
    valid = w.fits.valid;
  }

  pub placed_new : (g : JobRun) → IsIn g x.grants → IsPlaced p g.run.claim
  placed_new g there = linked.granted g (subst (IsIn g) (ap (λ c. grants_with_all (pending_steps c) p.grants) w.change ∙ queued_grants w.jobs p.grants) there)

  pub said_new : KeepsSaid p.pool x.pool
  said_new = commit_said p.pool p.pending linked.facts.pending

-- ---- acknowledged jobs
pub record Confirms (p q : Protocol) (jobs : List NewJob) : Type 0 where
  pub jobs_are : q.pool.jobs ≡ p.pool.jobs
  pub next : q.pool.next ≡ p.pool.next
  pub moment : q.pool.moment ≡ p.pool.moment
  pub ordered : q.pool.ordered ≡ p.pool.ordered
  pub reports : q.pool.reports ≡ p.pool.reports
  pub removals : q.removals ≡ p.removals
  pub grants : q.grants ≡ p.grants
  pub pending : q.pending ≡ p.pending
  pub acked : SameMembers q.pool.acked (map new_job_id jobs ++ p.pool.acked)

confirmed : (p : Protocol) (jobs : List NewJob) → Confirms p (protocol_after_all p (map confirm_move jobs)) jobs × AreOffSlots (map confirm_move jobs)
confirmed p [] = (record { jobs_are = refl; next = refl; moment = refl; ordered = refl; reports = refl; removals = refl; grants = refl; pending = refl; acked = λ k. (λ there. there, λ there. there) }, tt)
confirmed p (j ∷ js) =
    let rest = confirmed (protocol_after p (Confirm j.job)) js in (
      record {
        jobs_are = rest.0.jobs_are;
        next = rest.0.next;
        moment = rest.0.moment;
        ordered = rest.0.ordered;
        reports = rest.0.reports;
        removals = rest.0.removals;
        grants = rest.0.grants;
        pending = rest.0.pending;
        acked = λ k. (λ there. to k (in_both k (map new_job_id js) (j.job ∷ p.pool.acked) ((rest.0.acked k).0 there)), λ there. (rest.0.acked k).1 (back k there));
      },
      (tt, rest.1),
    )
  where
    to : (k : JobId) → IsIn k (map new_job_id js) ⊎ IsIn k (j.job ∷ p.pool.acked) → IsIn k (j.job ∷ (map new_job_id js ++ p.pool.acked))
    to k (inl there) = inr (in_first k (map new_job_id js) p.pool.acked there)
    to k (inr (inl same)) = inl same
    to k (inr (inr there)) = inr (in_second k (map new_job_id js) p.pool.acked there)

    mid : (k : JobId) → IsIn k (map new_job_id js) ⊎ IsIn k p.pool.acked → IsIn k (map new_job_id js ++ (j.job ∷ p.pool.acked))
    mid k (inl h) = in_first k (map new_job_id js) (j.job ∷ p.pool.acked) h
    mid k (inr h) = in_second k (map new_job_id js) (j.job ∷ p.pool.acked) (inr h)

    back : (k : JobId) → IsIn k (j.job ∷ (map new_job_id js ++ p.pool.acked)) → IsIn k (map new_job_id js ++ (j.job ∷ p.pool.acked))
    back k (inl same) = in_second k (map new_job_id js) (j.job ∷ p.pool.acked) (inl same)
    back k (inr there) = mid k (in_both k (map new_job_id js) p.pool.acked there)

pub same_members_on : {A : Type 0} (xs ys zs : List A) → SameMembers xs ys → SameMembers ys zs → SameMembers xs zs
same_members_on xs ys zs a b k = (λ there. (b k).0 ((a k).0 there), λ there. (a k).1 ((b k).1 there))

pub jobs_logged : (p : Protocol) (a : PoolParts) (ids : List JobId) (tx : List Operation) (new : KeyedAds) → (linked : IsLinked p a) (w : AwaitsJobs p a ids tx) → queue_after a.queue tx ≡ Ok new
    → StayLinked p (Commit ∷ map confirm_move w.jobs) (parts_with_jobs ids new a)
jobs_logged p a ids tx new linked w h = schedd_event p a (parts_with_jobs ids new a) ms linked may (tt, c.1) refl (record {
  moment = c.0.moment ∙ (said.moment ∙ linked.moment);
  acked = subst (λ xs. SameMembers q.pool.acked (xs ++ a.acked)) w.named
      (same_members_on q.pool.acked (map new_job_id w.jobs ++ x.pool.acked) (map new_job_id w.jobs ++ a.acked) c.0.acked
      (Rattle.pool_rules.proofs.Kept.same_with (map new_job_id w.jobs) x.pool.acked a.acked (subst (λ xs. SameMembers xs a.acked) (sym said.acked) linked.acked)));
  ordered = subst (λ xs. SameMembers xs a.ordered) (sym (c.0.ordered ∙ said.ordered)) linked.ordered;
  reports = subst (λ xs. SameMembers xs a.reports) (sym (c.0.reports ∙ said.reports)) linked.reports;
  schedd = record {
    jobs = subst (ShowsJobs new a.schedd.left) (sym c.0.jobs_are) part.jobs;
    next = c.0.next ∙ part.next;
    marked = λ job marked. subst (IsIn job) (sym c.0.removals) (part.marked job marked);
  };
  finished = λ job. subst (λ f. IsFinishedAs (ad_at (Proc job) new) (a.finished job) (f job)) (sym c.0.jobs_are) (finished_new p a ids tx new linked w h job);
  sent = [];
  mails = nothing_more a.mails;
  borne = λ m there. absurd there;
  claims = λ k there. on.placed k.claim.no.slot (linked.claims k there);
  granted = λ g there. on.placed g.run.claim.slot (placed_new p a ids tx new linked w h g (subst (IsIn g) c.0.grants there));
  awaited = record { change = c.0.pending; waiting = w.idle; fits = fits_new p a ids tx new linked w h };
})
  where
    ms : List ProtocolMove
    ms = Commit ∷ map confirm_move w.jobs

    q : Protocol
    q = protocol_after_all p ms

    x : Protocol
    x = protocol_after p Commit

    may : MayAll p ms
    may = commit_submission p w.jobs linked.facts w.change

    on : GoesOn p q
    on = goes_on p ms may linked.facts linked.safe

    c : Confirms x q w.jobs × AreOffSlots (map confirm_move w.jobs)
    c = confirmed x w.jobs

    said : KeepsSaid p.pool x.pool
    said = said_new p a ids tx new linked w h

    part : IsPart x new a.schedd
    part = part_then p a ids tx new linked w h

-- ---- a submission is handed to the log
not_among : (job : JobId) (jobs : List NewJob) → IsNotAmong job (map new_job_id jobs) → IsNone job jobs
not_among job [] far j there is = absurd there
not_among job (y ∷ ys) far j (inl same) is = far.0 (is ∙ ap (λ (z : NewJob). z.job) same)
not_among job (y ∷ ys) far j (inr there) is = not_among job ys far.1 j there is

pub new_jobs : (jobs : JobId → Option Entry) (q : KeyedAds) (finished : JobId → Option Entry) (js : List NewJob) → AreNewJobs q finished (map new_job_id js) → ((j : NewJob) → IsIn j js → ad_at (Proc j.job) q ≡ None → finished j.job ≡ None → jobs j.job ≡ None) → AreNew jobs js
new_jobs jobs q finished [] new none = tt
new_jobs jobs q finished (j ∷ js) new none = (
  none j (inl refl) new.0 new.1,
  new_jobs (jobs_with jobs j) q finished js new.3
      (λ k there no_ad no_end. set_cases jobs j k.job (λ o. o ≡ None) (λ same. absurd (not_among j.job js new.2 k there same)) (λ far. none k (inr there) no_ad no_end)),
)

pub jobs_submitted : (p : Protocol) (a : PoolParts) (jobs : List NewJob) (tx : List Operation) → IsLinked p a → a.awaited ≡ None → AreNewJobs a.queue a.finished (map new_job_id jobs)
    → ((new : KeyedAds) → queue_after a.queue tx ≡ Ok new → BringsJobs a.queue jobs new) → StayLinked p (Pend (Submission jobs) ∷ []) (parts_with_submission (map new_job_id jobs) tx a)
jobs_submitted p a jobs tx linked idle new brings = schedd_event p a (parts_with_submission (map new_job_id jobs) tx a) (Pend (Submission jobs) ∷ []) linked ((before.change, are_new), tt) (tt, tt) refl (record {
  moment = linked.moment;
  acked = linked.acked;
  ordered = linked.ordered;
  reports = linked.reports;
  schedd = record { jobs = linked.schedd.jobs; next = linked.schedd.next; marked = linked.schedd.marked };
  finished = linked.finished;
  sent = [];
  mails = nothing_more a.mails;
  borne = λ m there. absurd there;
  claims = linked.claims;
  granted = linked.granted;
  awaited = record { jobs = jobs; named = refl; change = refl; brings = brings; idle = before.waiting; fits = before.fits };
})
  where
    before : AwaitsNothing p a
    before = was_idle p a linked idle

    never : (j : NewJob) → ad_at (Proc j.job) a.queue ≡ None → a.finished j.job ≡ None → p.pool.jobs j.job ≡ None
    never j no_ad no_end = subst (λ o. IsFinishedAs o (a.finished j.job) (p.pool.jobs j.job)) no_ad (linked.finished j.job) ∙ no_end

    are_new : AreNew p.pool.jobs jobs
    are_new = new_jobs p.pool.jobs a.queue a.finished jobs new (λ j there. never j)
