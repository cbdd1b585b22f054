-- Of which part of the pool before it the parts of a pool after a step come, and how a lease fares.
use Rattle.std.proofs.Common.{◌≡◌, ◌≢◌, ℕ, ◌≤◌, ◌⊎◌, inl, inr, List, Option, Some, None, Bool, true, false, not, max, refl, sym, ◌∙◌, ap, subst, arith, if◌then◌else◌, IsSomeAnd}
use Rattle.std.specs.Prelude.{option_map}
use Rattle.claim_id.specs.declared.numbers.JobId.{JobId}
use Rattle.claim_id.specs.declared.numbers.RunNo.{RunNo}
use Rattle.pool_view.specs.Numbers.{same_job, same_run}
use Rattle.pool_view.specs.declared.job.State.{State}
use Rattle.pool_view.specs.declared.job.Entry.{Entry}
use Rattle.pool_view.specs.declared.run.Run.{Run}
use Rattle.pool_view.specs.declared.run.EndReport.{EndReport}
use Rattle.pool_view.specs.declared.job.Outcome.TheVariants.{EndedBy, Removed}
use Rattle.pool_view.specs.declared.job.State.TheVariants.{Idle, Held, Under, Left, Done}
use Rattle.pool_view.specs.AbstractPool.{Marks, AbstractPool, IsIn, IsDead, Stands}
use Rattle.pool_view.specs.AbstractStep.{AbstractStep, Time, Queue, Acknowledge, Order, Grant, Start, Mark, Extend, Stop, Free, Finish, Hold, Release, Lengthen, IsLeased, IsOver, IsWaiting, Allowed, entry_with_state, with_state, with_lease_end, with_until, view_after}
use Rattle.pool_view.proofs.Members.{in_filter, in_map}
use Rattle.pool_view.proofs.Steps.{EntryAt, at_state, entry_at, other_state, new_state, queued_other, step_dead}
use Rattle.pool_view.specs.Protocol.{JobRun}
use Rattle.pool_view.specs.ProtocolMove.{grants_with}
use Rattle.pool_view.specs.Facts.{IsKept}

-- ---- how a lease fares
-- one job's new state keeps a lease, where it keeps those of this job
changed_kept : (v : AbstractPool) (job : JobId) (f : State → State) (q : JobId) (run : RunNo) (until : ℕ)
    → ((end : ℕ) → Stands v job (Under run end) → until ≤ end → IsKept (with_state v job f) job run until)
    → IsLeased v q run until → IsKept (with_state v job f) q run until
changed_kept v job f q run until own (inl past) = inr (inl past)
changed_kept v job f q run until own (inr (end, stands, within)) = by_place (entry_at v job f q)
  where
    by_place : EntryAt v job f q → IsKept (with_state v job f) q run until
    by_place (inl at) = subst (λ j. IsKept (with_state v job f) j run until) (sym at.0) (own end (subst (λ j. Stands v j (Under run end)) at.0 stands) within)
    by_place (inr at) = inr (inr (end, other_state v job f q (Under run end) at.0 stands, within))

-- a job in another state has no lease
idle_kept : (v : AbstractPool) (job : JobId) (f : State → State) (s : State) (run : RunNo) (until : ℕ) → Stands v job s → ((end : ℕ) → s ≢ Under run end)
    → (end : ℕ) → Stands v job (Under run end) → until ≤ end → IsKept (with_state v job f) job run until
idle_kept v job f s run until here other end stands within = absurd (other end (sym (at_state (v.jobs job) (λ t. t ≡ s) (Under run end) stands here)))

-- a lease of a job whose run is over is past, or of a dead run
over_kept : (v : AbstractPool) (job : JobId) (f : State → State) (run : RunNo) (until : ℕ) → IsSomeAnd (v.jobs job) (λ e. IsWaiting e.state ⊎ IsOver v e.state)
    → (end : ℕ) → Stands v job (Under run end) → until ≤ end → IsKept (with_state v job f) job run until
over_kept v job f run until over end stands within = by_cause (at_state (v.jobs job) (λ s. IsWaiting s ⊎ IsOver v s) (Under run end) stands over)
  where
    by_cause : IsWaiting (Under run end) ⊎ IsOver v (Under run end) → IsKept (with_state v job f) job run until
    by_cause (inl (inl waits)) = cc
    by_cause (inl (inr waits)) = cc
    by_cause (inr (inl dead)) = inl dead
    by_cause (inr (inr past)) = inr (inl (omega arith))

weaker : (o : Option Entry) (P Q : Entry → Type 0) → ((e : Entry) → P e → Q e) → IsSomeAnd o P → IsSomeAnd o Q
weaker None P Q f h = h
weaker (Some e) P Q f h = f e h

ended_kept : (v : AbstractPool) (job : JobId) (f : State → State) (run dead : RunNo) (until old : ℕ) → Stands v job (Under dead old) → IsDead v dead
    → (end : ℕ) → Stands v job (Under run end) → until ≤ end → IsKept (with_state v job f) job run until
ended_kept v job f run dead until old here is_dead end stands within =
    let same : Under run end ≡ Under dead old = at_state (v.jobs job) (λ t. t ≡ Under dead old) (Under run end) stands here in
    let its : dead ≡ run = cc in
    inl (subst (IsDead v) its is_dead)

longer_kept : (v : AbstractPool) (job : JobId) (run of : RunNo) (until old end : ℕ) → Stands v job (Under of old) → old ≤ end
    → (late : ℕ) → Stands v job (Under run late) → until ≤ late → IsKept (with_state v job (with_lease_end end)) job run until
longer_kept v job run of until old end here longer late stands within =
    let same : Under run late ≡ Under of old = at_state (v.jobs job) (λ t. t ≡ Under of old) (Under run late) stands here in
    let shorter : late ≡ old = cc in
    inr (inr (end, new_state v job (with_lease_end end) (Under run late) stands, omega arith))

leased_on : (v : AbstractPool) (k : AbstractStep) (q : JobId) (run : RunNo) (until : ℕ) → Allowed v k → IsLeased v q run until → IsKept (view_after v k) q run until
leased_on v (Time moment) q run until ok (inl past) = inr (inl (omega arith))
leased_on v (Time moment) q run until ok (inr h) = inr (inr h)
leased_on v (Queue job core) q run until ok (inl past) = inr (inl past)
leased_on v (Queue job core) q run until ok (inr (end, stands, within)) = inr (inr (end, queued_other v job (Some (record { core = core; state = Idle })) (λ e. e.state ≡ Under run end) q ok stands, within))
leased_on v (Acknowledge job) q run until ok leased = inr leased
leased_on v (Order job) q run until ok leased = inr leased
leased_on v (Grant job new end) q run until ok leased = changed_kept v job (λ s. Under new end) q run until (idle_kept v job (λ s. Under new end) Idle run until ok.0 (λ e no. cc)) leased
leased_on v (Start r marks) q run until ok leased = inr leased
leased_on v (Mark marks) q run until ok leased = inr leased
leased_on v (Extend r later) q run until ok leased = inr leased
leased_on v (Stop r how) q run until ok leased = inr leased
leased_on v (Free job state) q run until ok leased = changed_kept v job (λ s. state) q run until (over_kept v job (λ s. state) run until (weaker (v.jobs job) (λ e. IsOver v e.state) (λ e. IsWaiting e.state ⊎ IsOver v e.state) (λ e h. inr h) ok.1)) leased
leased_on v (Finish job (EndedBy by how)) q run until ok leased = changed_kept v job (λ s. Done (EndedBy by how)) q run until (ended_kept v job (λ s. Done (EndedBy by how)) run by until ok.0.0 ok.0.1 ok.1) leased
leased_on v (Finish job Removed) q run until ok leased = changed_kept v job (λ s. Done Removed) q run until (over_kept v job (λ s. Done Removed) run until ok.1) leased
leased_on v (Hold job) q run until ok leased = changed_kept v job (λ s. Held) q run until (idle_kept v job (λ s. Held) Idle run until ok (λ e no. cc)) leased
leased_on v (Release job) q run until ok leased = changed_kept v job (λ s. Idle) q run until (idle_kept v job (λ s. Idle) Held run until ok (λ e no. cc)) leased
leased_on v (Lengthen job end) q run until (of, old, here, longer) leased = changed_kept v job (with_lease_end end) q run until (longer_kept v job run of until old end here longer) leased

-- every step keeps every lease
pub kept_on : (v : AbstractPool) (k : AbstractStep) (q : JobId) (run : RunNo) (until : ℕ) → Allowed v k → IsKept v q run until → IsKept (view_after v k) q run until
kept_on v k q run until ok (inl dead) = inl (step_dead v k run ok dead)
kept_on v k q run until ok (inr leased) = leased_on v k q run until ok leased

-- ---- of which job that is under a run
abbrev pub UnderBefore : AbstractPool → AbstractStep → JobId → RunNo → Type 0
UnderBefore v k q run = ((old : ℕ) × Stands v q (Under run old)) ⊎ ((end : ℕ) × (k ≡ Grant q run end))

state_before : (f : State → State) (s : State) (o : Option Entry) → IsSomeAnd (option_map (entry_with_state f) o) (λ e. e.state ≡ s) → (t : State) × IsSomeAnd o (λ e. e.state ≡ t) × (f t ≡ s)
state_before f s None h = absurd h
state_before f s (Some e) h = (e.state, refl, h)

abbrev StateBefore : AbstractPool → JobId → (State → State) → JobId → State → Type 0
StateBefore v job f q s = Stands v q s ⊎ ((q ≡ job) × ((t : State) × Stands v q t × (f t ≡ s)))

changed_before : (v : AbstractPool) (job : JobId) (f : State → State) (q : JobId) (s : State) → Stands (with_state v job f) q s → StateBefore v job f q s
changed_before v job f q s stands = by_place (entry_at v job f q)
  where
    by_place : EntryAt v job f q → StateBefore v job f q s
    by_place (inl at) = inr (at.0, state_before f s (v.jobs q) (subst (λ o. IsSomeAnd o (λ e. e.state ≡ s)) at.1 stands))
    by_place (inr at) = inl (subst (λ o. IsSomeAnd o (λ e. e.state ≡ s)) at.1 stands)

-- a new state that is not under a run leaves only what was under it before
never_under : (v : AbstractPool) (k : AbstractStep) (job : JobId) (s : State) (q : JobId) (run : RunNo) (end : ℕ) → (s ≢ Under run end)
    → Stands (with_state v job (λ _. s)) q (Under run end) → UnderBefore v k q run
never_under v k job s q run end other stands = by_place (changed_before v job (λ _. s) q (Under run end) stands)
  where
    by_place : StateBefore v job (λ _. s) q (Under run end) → UnderBefore v k q run
    by_place (inl old) = inl (end, old)
    by_place (inr (same, (t, old, is))) = absurd (other is)

waiting_not_under : (s : State) (run : RunNo) (end : ℕ) → IsWaiting s → s ≢ Under run end
waiting_not_under s run end (inl idle) same = cc
waiting_not_under s run end (inr held) same = cc

lengthened_before : (late : ℕ) (t : State) (run : RunNo) (end : ℕ) → with_lease_end late t ≡ Under run end → (old : ℕ) × (t ≡ Under run old)
lengthened_before late Idle run end is = cc
lengthened_before late Held run end is = cc
lengthened_before late (Under by old) run end is = (old, cc)
lengthened_before late Left run end is = cc
lengthened_before late (Done outcome) run end is = cc

pub under_before : (v : AbstractPool) (k : AbstractStep) (q : JobId) (run : RunNo) (end : ℕ) → Allowed v k → Stands (view_after v k) q (Under run end) → UnderBefore v k q run
under_before v (Time moment) q run end ok stands = inl (end, stands)
under_before v (Queue job core) q run end ok stands = by_test (same_job q job) stands
  where
    by_test : (b : Bool) → IsSomeAnd (if b then Some (record { core = core; state = Idle }) else v.jobs q) (λ e. e.state ≡ Under run end) → UnderBefore v (Queue job core) q run
    by_test true idle = cc
    by_test false old = inl (end, old)
under_before v (Acknowledge job) q run end ok stands = inl (end, stands)
under_before v (Order job) q run end ok stands = inl (end, stands)
under_before v (Grant job new late) q run end ok stands = by_place (changed_before v job (λ _. Under new late) q (Under run end) stands)
  where
    by_place : StateBefore v job (λ _. Under new late) q (Under run end) → UnderBefore v (Grant job new late) q run
    by_place (inl old) = inl (end, old)
    by_place (inr (same, (t, old, is))) = let its : new ≡ run = cc in inr (late, ap (λ j. Grant j new late) (sym same) ∙ ap (λ n. Grant q n late) its)
under_before v (Start r marks) q run end ok stands = inl (end, stands)
under_before v (Mark marks) q run end ok stands = inl (end, stands)
under_before v (Extend r until) q run end ok stands = inl (end, stands)
under_before v (Stop r how) q run end ok stands = inl (end, stands)
under_before v (Free job state) q run end ok stands = never_under v (Free job state) job state q run end (waiting_not_under state run end ok.0) stands
under_before v (Finish job outcome) q run end ok stands = never_under v (Finish job outcome) job (Done outcome) q run end (λ no. cc) stands
under_before v (Hold job) q run end ok stands = never_under v (Hold job) job Held q run end (λ no. cc) stands
under_before v (Release job) q run end ok stands = never_under v (Release job) job Idle q run end (λ no. cc) stands
under_before v (Lengthen job late) q run end ok stands = by_place (changed_before v job (with_lease_end late) q (Under run end) stands)
  where
    by_place : StateBefore v job (with_lease_end late) q (Under run end) → UnderBefore v (Lengthen job late) q run
    by_place (inl old) = inl (end, old)
    by_place (inr (same, (t, old, is))) = let found = lengthened_before late t run end is in inl (found.0, subst (Stands v q) found.1 old)

-- ---- of which run
abbrev pub RunBefore : AbstractPool → AbstractStep → Run → Type 0
RunBefore v k r = ((s : Run) × IsIn s v.runs × (s.run ≡ r.run) × (s.job ≡ r.job) × (s.slot ≡ r.slot)) ⊎ ((marks : Marks) × (k ≡ Start r marks))

pub run_before : (v : AbstractPool) (k : AbstractStep) (r : Run) → IsIn r (view_after v k).runs → RunBefore v k r
run_before v (Time moment) r there = inl (r, there, refl, refl, refl)
run_before v (Queue job core) r there = inl (r, there, refl, refl, refl)
run_before v (Acknowledge job) r there = inl (r, there, refl, refl, refl)
run_before v (Order job) r there = inl (r, there, refl, refl, refl)
run_before v (Grant job run end) r there = inl (r, there, refl, refl, refl)
run_before v (Start new marks) r (inl same) = inr (marks, ap (λ x. Start x marks) (sym same))
run_before v (Start new marks) r (inr there) = inl (r, there, refl, refl, refl)
run_before v (Mark marks) r there = inl (r, there, refl, refl, refl)
run_before v (Extend new until) r there =
    let found = in_map (with_until new.run until) r v.runs there in
    subst (RunBefore v (Extend new until)) (sym found.2) (by_test (same_run found.0.run new.run) found.0 found.1)
  where
    by_test : (b : Bool) (s : Run) → IsIn s v.runs → RunBefore v (Extend new until) (if b then record s { until = max s.until until } else s)
    by_test true s old = inl (s, old, refl, refl, refl)
    by_test false s old = inl (s, old, refl, refl, refl)
run_before v (Stop new how) r there = inl (r, in_filter (λ x. not (same_run x.run new.run)) r v.runs there, refl, refl, refl)
run_before v (Free job state) r there = inl (r, there, refl, refl, refl)
run_before v (Finish job outcome) r there = inl (r, there, refl, refl, refl)
run_before v (Hold job) r there = inl (r, there, refl, refl, refl)
run_before v (Release job) r there = inl (r, there, refl, refl, refl)
run_before v (Lengthen job end) r there = inl (r, there, refl, refl, refl)

-- ---- of which word on a run's end
abbrev pub ReportBefore : AbstractPool → AbstractStep → EndReport → Type 0
ReportBefore v k s = IsIn s v.reports ⊎ ((r : Run) × IsIn r v.runs × (s.run ≡ r.run) × (s.job ≡ r.job) × (k ≡ Stop r (Some s.how)))

pub report_before : (v : AbstractPool) (k : AbstractStep) (s : EndReport) → Allowed v k → IsIn s (view_after v k).reports → ReportBefore v k s
report_before v (Time moment) s ok there = inl there
report_before v (Queue job core) s ok there = inl there
report_before v (Acknowledge job) s ok there = inl there
report_before v (Order job) s ok there = inl there
report_before v (Grant job run end) s ok there = inl there
report_before v (Start new marks) s ok there = inl there
report_before v (Mark marks) s ok there = inl there
report_before v (Extend new until) s ok there = inl there
report_before v (Stop r None) s ok there = inl there
report_before v (Stop r (Some how)) s ok (inl same) = inr (r, ok, ap (λ x. x.run) same, ap (λ x. x.job) same, ap (λ x. Stop r (Some x.how)) (sym same))
report_before v (Stop r (Some how)) s ok (inr there) = inl there
report_before v (Free job state) s ok there = inl there
report_before v (Finish job outcome) s ok there = inl there
report_before v (Hold job) s ok there = inl there
report_before v (Release job) s ok there = inl there
report_before v (Lengthen job end) s ok there = inl there

-- ---- of which grant
abbrev pub GrantBefore : AbstractStep → List JobRun → JobRun → Type 0
GrantBefore k gs g = IsIn g gs ⊎ ((end : ℕ) × (k ≡ Grant g.job g.run end))

pub grant_before : (k : AbstractStep) (gs : List JobRun) (g : JobRun) → IsIn g (grants_with k gs) → GrantBefore k gs g
grant_before (Time moment) gs g there = inl there
grant_before (Queue job core) gs g there = inl there
grant_before (Acknowledge job) gs g there = inl there
grant_before (Order job) gs g there = inl there
grant_before (Grant job run end) gs g (inl same) = inr (end, ap (λ x. Grant x.job x.run end) (sym same))
grant_before (Grant job run end) gs g (inr there) = inl there
grant_before (Start new marks) gs g there = inl there
grant_before (Mark marks) gs g there = inl there
grant_before (Extend new until) gs g there = inl there
grant_before (Stop r how) gs g there = inl there
grant_before (Free job state) gs g there = inl there
grant_before (Finish job outcome) gs g there = inl there
grant_before (Hold job) gs g there = inl there
grant_before (Release job) gs g there = inl there
grant_before (Lengthen job end) gs g there = inl there

pub granted_more : (k : AbstractStep) (gs : List JobRun) (g : JobRun) → IsIn g gs → IsIn g (grants_with k gs)
granted_more (Time moment) gs g there = there
granted_more (Queue job core) gs g there = there
granted_more (Acknowledge job) gs g there = there
granted_more (Order job) gs g there = there
granted_more (Grant job run end) gs g there = inr there
granted_more (Start new marks) gs g there = there
granted_more (Mark marks) gs g there = there
granted_more (Extend new until) gs g there = there
granted_more (Stop r how) gs g there = there
granted_more (Free job state) gs g there = there
granted_more (Finish job outcome) gs g there = there
granted_more (Hold job) gs g there = there
granted_more (Release job) gs g there = there
granted_more (Lengthen job end) gs g there = there

-- the next number never falls
pub next_on : (v : AbstractPool) (k : AbstractStep) → v.next ≤ (view_after v k).next
next_on v (Time moment) = omega arith
next_on v (Queue job core) = omega arith
next_on v (Acknowledge job) = omega arith
next_on v (Order job) = omega arith
next_on v (Grant job run end) = omega arith
next_on v (Start new marks) = omega arith
next_on v (Mark marks) = omega arith
next_on v (Extend new until) = omega arith
next_on v (Stop r how) = omega arith
next_on v (Free job state) = omega arith
next_on v (Finish job outcome) = omega arith
next_on v (Hold job) = omega arith
next_on v (Release job) = omega arith
next_on v (Lengthen job end) = omega arith
