-- The jobs that a view of a pool shows are those of the protocol.
use Rattle.std.proofs.Common.{◌≡◌, ◌⊎◌, inl, inr, ℕ, Bool, true, false, List, [], ◌∷◌, ◌++◌, Option, Some, None, IsSome, IsSomeAnd, refl, sym, ◌∙◌, ap, subst, true≢false, if◌then◌else◌}
use Rattle.std.specs.Prelude.{filter_map}
use Rattle.std.specs.List.{cons_option}
use Rattle.std.specs.Map.{lookup}
use Rattle.std.proofs.lemmas.List.Elements.{filter_map-append}
use Rattle.std.proofs.lemmas.Option.{none-some, same_Some}
use Rattle.ad_tree.specs.Ad.{Attributes}
use Rattle.claim_id.specs.Texts.{claim_text}
use Rattle.claim_id.specs.declared.numbers.ClaimId.{ClaimId}
use Rattle.claim_id.specs.declared.numbers.JobId.{JobId}
use Rattle.claim_id.specs.declared.numbers.RunNo.{RunNo}
use Rattle.pool_rules.specs.Linked.{IsFinishedAs}
use Rattle.pool_rules.specs.Parts.{entry_done_by, finished_in}
use Rattle.pool_parts.specs.declared.finished.FinishedJob.{FinishedJob}
use Rattle.pool_view.specs.Protocol.{Protocol}
use Rattle.pool_shown.specs.ShownJobs.{AreShown, done_by, done_entry, entry_by, entry_in, entry_of, run_by, shown_entry, shown_state, state_by, under_by, under_state}
use Rattle.pool_state.specs.declared.state.PoolState.{PoolState}
use Rattle.pool_view.proofs.Sameness.{other_job, same_job-same, same_job-true}
use Rattle.pool_view.specs.AbstractPool.{IsIn}
use Rattle.pool_view.specs.Ads.{core_of}
use Rattle.pool_view.specs.Numbers.{same_job}
use Rattle.pool_view.specs.Views.{entry_at}
use Rattle.pool_view.specs.declared.job.Entry.{Entry}
use Rattle.pool_view.specs.declared.job.JobEntry.{JobEntry}
use Rattle.pool_view.specs.declared.job.State.{State}
use Rattle.pool_view.specs.declared.job.State.TheVariants as state
use Rattle.queue_tx.specs.Keys.{same_key}
use Rattle.queue_tx.specs.Kinds.{kind_of}
use Rattle.queue_tx.specs.Queues.{KeyedAds, ad_at}
use Rattle.queue_tx.specs.declared.key.Key.{Key}
use Rattle.queue_tx.specs.declared.key.Key.TheVariants.{Header, Proc}
use Rattle.queue_tx.specs.declared.kind.JobKind.{JobKind}
use Rattle.schedd_core.proofs.PlanAds.{run_kind}
use Rattle.schedd_core.proofs.QueueChanges.{same_proc}
use Rattle.schedd_core.specs.JobStates.{NamesRun, ShowsJob, ShowsState}
use Rattle.schedd_state.specs.Reopening.{IsReader, claim_by, claim_in}
use Rattle.schedd_core.specs.ScheddParts.{IsThere}
use Rattle.schedd_plan.specs.JobPlaces.{is_left}
use Rattle.pool_rules.specs.Kept.{IsKept}
use Rattle.pool_rules.proofs.PoolOpening.{there_listed}

-- ---- entries in lists
first_of : (job : JobId) (xs ys : List JobEntry) (e : Entry) → entry_at job xs ≡ Some e → entry_at job (xs ++ ys) ≡ Some e
first_of job [] ys e is = absurd (none-some e is)
first_of job (x ∷ xs) ys e is = by (same_job job x.job) is (first_of job xs ys e)
  where
    by : (b : Bool) → (if b then Some x.entry else entry_at job xs) ≡ Some e → (entry_at job xs ≡ Some e → entry_at job (xs ++ ys) ≡ Some e) → (if b then Some x.entry else entry_at job (xs ++ ys)) ≡ Some e
    by true is rest = is
    by false is rest = rest is

second_of : (job : JobId) (xs ys : List JobEntry) → entry_at job xs ≡ None → entry_at job (xs ++ ys) ≡ entry_at job ys
second_of job [] ys is = refl
second_of job (x ∷ xs) ys is = by (same_job job x.job) is (second_of job xs ys)
  where
    by : (b : Bool) → (if b then Some x.entry else entry_at job xs) ≡ None → (entry_at job xs ≡ None → entry_at job (xs ++ ys) ≡ entry_at job ys) → (if b then Some x.entry else entry_at job (xs ++ ys)) ≡ entry_at job ys
    by true is rest = absurd (none-some x.entry (sym is))
    by false is rest = rest is

-- each entry is of its own job
abbrev AreOwn : (JobId → Option JobEntry) → Type 0
AreOwn f = (job : JobId) (e : JobEntry) → f job ≡ Some e → e.job ≡ job

-- the entry of a job that is in a list
there_at : (f : JobId → Option JobEntry) (job : JobId) (jobs : List JobId) (e : JobEntry) → AreOwn f → f job ≡ Some e → IsIn job jobs → entry_at job (filter_map f jobs) ≡ Some e.entry
there_at f job [] e own is there = absurd there
there_at f job (x ∷ xs) e own is there = by (f x) refl there (there_at f job xs e own is)
  where
    found : (d : JobEntry) → f x ≡ Some d → job ≡ x → d.entry ≡ e.entry
    found d at same = ap (λ (y : JobEntry). y.entry) (same_Some d e (sym at ∙ (ap f (sym same) ∙ is)))

    by_same : (d : JobEntry) → f x ≡ Some d → (b : Bool) → same_job job d.job ≡ b → (job ≡ x) ⊎ IsIn job xs → (IsIn job xs → entry_at job (filter_map f xs) ≡ Some e.entry) → (if b then Some d.entry else entry_at job (filter_map f xs)) ≡ Some e.entry
    by_same d at true test there rest = ap (λ y. Some y) (found d at (same_job-true job d.job test ∙ own x d at))
    by_same d at false test (inl same) rest = absurd (other_job job d.job test (same ∙ sym (own x d at)))
    by_same d at false test (inr there) rest = rest there

    by : (o : Option JobEntry) → f x ≡ o → (job ≡ x) ⊎ IsIn job xs → (IsIn job xs → entry_at job (filter_map f xs) ≡ Some e.entry) → entry_at job (cons_option o (filter_map f xs)) ≡ Some e.entry
    by None at (inl same) rest = absurd (none-some e (sym at ∙ (ap f (sym same) ∙ is)))
    by None at (inr there) rest = rest there
    by (Some d) at there rest = by_same d at (same_job job d.job) refl there rest

-- and of one that has none
none_at : (f : JobId → Option JobEntry) (job : JobId) (jobs : List JobId) → AreOwn f → f job ≡ None → entry_at job (filter_map f jobs) ≡ None
none_at f job [] own none = refl
none_at f job (x ∷ xs) own none = by (f x) refl (none_at f job xs own none)
  where
    by_same : (d : JobEntry) → f x ≡ Some d → (b : Bool) → same_job job d.job ≡ b → entry_at job (filter_map f xs) ≡ None → (if b then Some d.entry else entry_at job (filter_map f xs)) ≡ None
    by_same d at true test rest = absurd (none-some d (sym none ∙ (ap f (same_job-true job d.job test ∙ own x d at) ∙ at)))
    by_same d at false test rest = rest

    by : (o : Option JobEntry) → f x ≡ o → entry_at job (filter_map f xs) ≡ None → entry_at job (cons_option o (filter_map f xs)) ≡ None
    by None at rest = rest
    by (Some d) at rest = by_same d at (same_job job d.job) refl rest

-- ---- the jobs that have left the queue
both_same : (a b : JobId) → same_job a b ≡ same_job b a
both_same a b = by (same_job a b) refl (same_job b a) refl
  where
    by : (x : Bool) → same_job a b ≡ x → (y : Bool) → same_job b a ≡ y → x ≡ y
    by true is true also = refl
    by false is false also = refl
    by true is false also = absurd (true≢false (sym (same_job-same b) ∙ (ap (same_job b) (sym (same_job-true a b is)) ∙ also)))
    by false is true also = absurd (true≢false (sym (same_job-same a) ∙ (ap (same_job a) (sym (same_job-true b a also)) ∙ is)))

done_at : (job : JobId) (finished : List (Key × FinishedJob)) → entry_at job (filter_map done_entry finished) ≡ finished_in finished job
done_at job [] = refl
done_at job (e ∷ es) = by e.0 e.1 (done_at job es)
  where
    by_test : (k : JobId) (f : FinishedJob) (a b : Bool) → a ≡ b → entry_at job (filter_map done_entry es) ≡ finished_in es job
        → (if a then Some (entry_of k f.ad (state.Done f.outcome)).entry else entry_at job (filter_map done_entry es)) ≡ entry_done_by (if b then Some f else lookup (same_key (Proc job)) es)
    by_test k f true true same rest = refl
    by_test k f false false same rest = rest
    by_test k f true false same rest = absurd (true≢false same)
    by_test k f false true same rest = absurd (true≢false (sym same))

    by : (k : Key) (f : FinishedJob) → entry_at job (filter_map done_entry es) ≡ finished_in es job → entry_at job (cons_option (done_by k f) (filter_map done_entry es)) ≡ entry_done_by (if same_key (Proc job) k then Some f else lookup (same_key (Proc job)) es)
    by Header f rest = rest
    by (Proc k) f rest = by_test k f (same_job job k) (same_key (Proc job) (Proc k)) (both_same job k ∙ sym (same_proc job k)) rest

-- ---- the state that an ad shows
module _ (read : List ℕ → Option ClaimId) (reads : IsReader read) where
  claim_read : (ad : Attributes) (claim : ClaimId) (number end : ℕ) → NamesRun ad claim number end → claim_in read ad ≡ Some claim
  claim_read ad claim number end names = ap (claim_by read) names.claim_is ∙ (reads (claim_text claim) claim).1 (names.valid, refl)

  under_read : (ad : Attributes) (claim : ClaimId) (run : RunNo) (end : ℕ) → claim.no ≡ run.claim → NamesRun ad claim run.number end → under_state read ad ≡ Some (state.Under run end)
  under_read ad claim run end same names =
      (λ i. under_by (run_by (claim_read ad claim run.number end names i) (names.number_is i)) (names.end_is i))
      ∙ (λ i. Some (state.Under (record { claim = same i; number = run.number }) end))

  state_read : (left : Bool) (ad : Attributes) (s : State) → ShowsState left ad s → shown_state read left ad ≡ Some s
  state_read left ad state.Idle shows = ap (λ k. state_by k left (under_state read ad)) shows
  state_read left ad state.Held shows = ap (λ k. state_by k left (under_state read ad)) shows
  state_read left ad (state.Under run end) (not_left, (claim, same, names)) =
      (λ i. state_by (run_kind ad claim run.number end names i) (not_left i) (under_state read ad)) ∙ under_read ad claim run end same names
  state_read left ad state.Left shows = λ i. state_by (shows.1 i) (shows.0 i) (under_state read ad)
  state_read left ad (state.Done by) shows = absurd shows

  -- an ad of no job shows none
  no_state : (left : Bool) (ad : Attributes) → kind_of ad ≡ None → shown_state read left ad ≡ None
  no_state left ad none = ap (λ k. state_by k left (under_state read ad)) none

  own_entries : (q : KeyedAds) (left : List JobId) → AreOwn (shown_entry read q left)
  own_entries q left job e is = by (ad_at (Proc job) q) is
    where
      by_state : (ad : Attributes) (s : Option State) → entry_by job ad s ≡ Some e → e.job ≡ job
      by_state ad None h = absurd (none-some e h)
      by_state ad (Some s) h = sym (ap (λ (x : JobEntry). x.job) (same_Some (entry_of job ad s) e h))

      by : (o : Option Attributes) → entry_in read left job o ≡ Some e → e.job ≡ job
      by None h = absurd (none-some e h)
      by (Some ad) h = by_state ad (shown_state read (is_left job left) ad) h

  kind_shown : (left : Bool) (ad : Attributes) (s : State) → ShowsState left ad s → IsSome (kind_of ad)
  kind_shown left ad s shows = by (kind_of ad) refl
    where
      by : (k : Option JobKind) → kind_of ad ≡ k → IsSome k
      by None is = absurd (none-some s (sym (no_state left ad is) ∙ state_read left ad s shows))
      by (Some k) is = refl

  -- ---- all jobs
  joined : (f : JobId → Option JobEntry) (a b c : List JobId) → filter_map f a ++ filter_map f b ++ filter_map f c ≡ filter_map f (a ++ b ++ c)
  joined f a b c = sym (filter_map-append f (a ++ b) c ∙ ap (λ xs. xs ++ filter_map f c) (filter_map-append f a b))

  -- the entry of a job, by the ad that the queue has of it and by how it stands
  module _ (q : KeyedAds) (left : List JobId) (finished : List (Key × FinishedJob)) (jobs : List JobId) (job : JobId) where
    past_queue : shown_entry read q left job ≡ None → entry_at job (filter_map (shown_entry read q left) jobs ++ filter_map done_entry finished) ≡ finished_in finished job
    past_queue none = second_of job (filter_map (shown_entry read q left) jobs) (filter_map done_entry finished)
        (none_at (shown_entry read q left) job jobs (own_entries q left) none) ∙ done_at job finished

    in_queue : (ad : Attributes) (e : Entry) → ad_at (Proc job) q ≡ Some ad → e.core ≡ core_of ad → ShowsState (is_left job left) ad e.state → IsIn job jobs
        → entry_at job (filter_map (shown_entry read q left) jobs ++ filter_map done_entry finished) ≡ Some e
    in_queue ad e at core shows there =
        let own : shown_entry read q left job ≡ Some (entry_of job ad e.state) = ap (entry_in read left job) at ∙ ap (entry_by job ad) (state_read (is_left job left) ad e.state shows) in
        first_of job (filter_map (shown_entry read q left) jobs) (filter_map done_entry finished) (entry_of job ad e.state).entry
        (there_at (shown_entry read q left) job jobs (entry_of job ad e.state) (own_entries q left) own there)
        ∙ (λ i. Some (record { core = sym core i; state = e.state }))

    entry_is : ((there : IsThere q job) → IsIn job jobs) → (o : Option Attributes) → ad_at (Proc job) q ≡ o → (e : Option Entry) → ShowsJob (is_left job left) o e → IsFinishedAs o (finished_in finished job) e
        → entry_at job (filter_map (shown_entry read q left) jobs ++ filter_map done_entry finished) ≡ e
    entry_is listed None at e shows is = past_queue (ap (entry_in read left job) at) ∙ sym is
    entry_is listed (Some ad) at None shows is = past_queue (ap (entry_in read left job) at ∙ ap (entry_by job ad) (no_state (is_left job left) ad shows)) ∙ is
    entry_is listed (Some ad) at (Some e) shows is = in_queue ad e at shows.0 shows.1
        (listed (subst (λ o. IsSomeAnd o (λ x. IsSome (kind_of x))) (sym at) (kind_shown (is_left job left) ad e.state shows.1)))

  -- the entry that a view shows is that of the protocol
  pub entry_shown : (p : Protocol) (s : PoolState) (entries : List JobEntry) (job : JobId) → IsKept p s → AreShown read s.queue s.schedd.left s.finished entries → entry_at job entries ≡ p.pool.jobs job
  entry_shown p s entries job k shown =
      ap (entry_at job) (shown.entries_are ∙ ap (λ xs. xs ++ filter_map done_entry s.finished) (joined (shown_entry read s.queue s.schedd.left) shown.idle shown.held shown.under))
      ∙ entry_is s.queue s.schedd.left s.finished (shown.idle ++ shown.held ++ shown.under) job
      (there_listed s.queue (shown.idle ++ shown.held ++ shown.under) (shown.idle, shown.held, shown.under, shown.are_idle, shown.are_held, shown.are_under, refl) job)
      (ad_at (Proc job) s.queue) refl (p.pool.jobs job) (k.linked.schedd.jobs job) (k.linked.finished job)
