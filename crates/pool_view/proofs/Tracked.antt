-- Every abstract step that the protocol makes keeps the facts, the unfinished transaction aside.
use Rattle.std.proofs.Common.{◌≡◌, ◌≢◌, ℕ, ◌+◌, ◌<◌, ◌≤◌, inl, inr, List, [], ◌∷◌, Option, Some, true, not, refl, sym, ◌∙◌, ap, subst, arith, filter}
use Rattle.claim_id.specs.declared.numbers.JobId.{JobId}
use Rattle.claim_id.specs.declared.numbers.RunNo.{RunNo}
use Rattle.pool_view.specs.Numbers.{same_run}
use Rattle.pool_mail.specs.declared.end.How.{How}
use Rattle.pool_view.specs.declared.run.Run.{Run}
use Rattle.pool_view.specs.declared.run.EndReport.{EndReport}
use Rattle.pool_view.specs.AbstractPool.{Marks, AbstractPool, IsIn, IsDead}
use Rattle.pool_view.specs.AbstractStep.{AbstractStep, Time, Queue, Acknowledge, Order, Grant, Start, Mark, Extend, Stop, Free, Finish, Hold, Release, Lengthen, Allowed, view_after}
use Rattle.pool_view.specs.Safe.{Safe, RunsSpent}
use Rattle.pool_view.proofs.Members.{passes}
use Rattle.pool_view.proofs.Sameness.{same_run-same}
use Rattle.pool_view.proofs.Steps.{step_safe, step_leased, step_runs_spent, step_dead, step_core}
use Rattle.pool_view.specs.Protocol.{JobRun, Lease, Holds, view_after_all}
use Rattle.pool_view.specs.ProtocolMove.{grants_with, grants_with_all}
use Rattle.pool_view.specs.Facts.{RunNumbers, SentLeases, DeadRuns, MarksSound, IsClaimed, RunningRuns}
use Rattle.pool_view.proofs.Sources.{kept_on, UnderBefore, under_before, RunBefore, run_before, ReportBefore, report_before, GrantBefore, grant_before, granted_more, next_on}

-- what a step needs beyond its own condition: a run that starts was granted, and marks are sound and hold the claims of the runs
abbrev pub HoldsRuns : AbstractPool → Marks → Type 0
HoldsRuns v marks = (s : Run) → IsIn s v.runs → Holds marks s.run.claim

abbrev pub IsBacked : AbstractPool → List JobRun → AbstractStep → Type 0
IsBacked v grants (Start r marks) = IsIn (record { run = r.run; job = r.job }) grants × IsClaimed marks r × MarksSound marks × HoldsRuns v marks
IsBacked v grants (Mark marks) = MarksSound marks × HoldsRuns v marks
IsBacked v grants (Time moment) = Unit {0}
IsBacked v grants (Queue job core) = Unit {0}
IsBacked v grants (Acknowledge job) = Unit {0}
IsBacked v grants (Order job) = Unit {0}
IsBacked v grants (Grant job run end) = Unit {0}
IsBacked v grants (Extend r until) = Unit {0}
IsBacked v grants (Stop r how) = Unit {0}
IsBacked v grants (Free job state) = Unit {0}
IsBacked v grants (Finish job outcome) = Unit {0}
IsBacked v grants (Hold job) = Unit {0}
IsBacked v grants (Release job) = Unit {0}
IsBacked v grants (Lengthen job end) = Unit {0}

abbrev pub AllBacked : AbstractPool → List JobRun → List AbstractStep → Type 0
AllBacked v grants [] = Unit {0}
AllBacked v grants (k ∷ ks) = Allowed v k × IsBacked v grants k × AllBacked (view_after v k) (grants_with k grants) ks

pub record Tracked (v : AbstractPool) (grants : List JobRun) (leases : List Lease) (gone : List RunNo) : Type 0 where
  pub safe : Safe v
  pub numbers : RunNumbers v grants
  pub sent : SentLeases v grants leases
  pub dead : DeadRuns v gone
  pub running : RunningRuns v

-- ---- run numbers
new_grant : (v : AbstractPool) (k : AbstractStep) (job : JobId) (run : RunNo) (end : ℕ) → k ≡ Grant job run end → Allowed v k → (run.number ≡ v.next) × ((view_after v k).next ≡ v.next + 1)
new_grant v k job run end is ok =
    let granted : Allowed v (Grant job run end) = subst (Allowed v) is ok in
    (granted.1, ap (λ x. (view_after v x).next) is)

granted_is : (k : AbstractStep) (gs : List JobRun) (job : JobId) (run : RunNo) (end : ℕ) → k ≡ Grant job run end → IsIn (record { run = run; job = job }) (grants_with k gs)
granted_is k gs job run end is = subst (λ x. IsIn (record { run = run; job = job }) (grants_with x gs)) (sym is) (inl refl)

step_below : (v : AbstractPool) (k : AbstractStep) (grants : List JobRun) → Allowed v k → RunNumbers v grants → (g : JobRun) → IsIn g (grants_with k grants) → g.run.number < (view_after v k).next
step_below v k grants ok numbers g there = by_source (grant_before k grants g there)
  where
    by_source : GrantBefore k grants g → g.run.number < (view_after v k).next
    by_source (inl old) =
        let below : g.run.number < v.next = numbers.below g old in
        let on : v.next ≤ (view_after v k).next = next_on v k in
        omega (arith, below, on)
    by_source (inr (end, is)) =
        let new = new_grant v k g.job g.run end is ok in
        let number : g.run.number ≡ v.next = new.0 in
        let after : (view_after v k).next ≡ v.next + 1 = new.1 in
        omega (arith, number, after)

step_one : (v : AbstractPool) (k : AbstractStep) (grants : List JobRun) → Allowed v k → RunNumbers v grants
    → (g h : JobRun) → IsIn g (grants_with k grants) → IsIn h (grants_with k grants) → g.run.number ≡ h.run.number → g ≡ h
step_one v k grants ok numbers g h here there same = by_source (grant_before k grants g here) (grant_before k grants h there)
  where
    old_new : (a b : JobRun) (end : ℕ) → IsIn a grants → k ≡ Grant b.job b.run end → a.run.number ≡ b.run.number → ⊥
    old_new a b end old is one =
        let below : a.run.number < v.next = numbers.below a old in
        let number : b.run.number ≡ v.next = (new_grant v k b.job b.run end is ok).0 in
        omega (arith, below, number, one)

    by_source : GrantBefore k grants g → GrantBefore k grants h → g ≡ h
    by_source (inl a) (inl b) = numbers.one g h a b same
    by_source (inl a) (inr (end, is)) = absurd (old_new g h end a is same)
    by_source (inr (end, is)) (inl b) = absurd (old_new h g end b is (sym same))
    by_source (inr (end, is)) (inr (late, also)) =
        let steps : Grant g.job g.run end ≡ Grant h.job h.run late = sym is ∙ also in
        let run : g.run ≡ h.run = cc in
        let job : g.job ≡ h.job = cc in
        let with_run : RunNo → JobRun = λ n. record { run = n; job = g.job } in
        let with_job : JobId → JobRun = λ j. record { run = h.run; job = j } in
        ap with_run run ∙ ap with_job job

step_numbers : (v : AbstractPool) (k : AbstractStep) (grants : List JobRun) → Allowed v k → IsBacked v grants k → RunNumbers v grants → RunNumbers (view_after v k) (grants_with k grants)
step_numbers v k grants ok backed numbers = record {
  below = step_below v k grants ok numbers;
  one = step_one v k grants ok numbers;
  of_jobs = λ job run end stands. by_job job run (under_before v k job run end ok stands);
  of_runs = λ r there. by_run r (run_before v k r there);
  of_reports = λ s there. by_said s (report_before v k s ok there);
}
  where
    by_job : (job : JobId) (run : RunNo) → UnderBefore v k job run → IsIn (record { run = run; job = job }) (grants_with k grants)
    by_job job run (inl (old, stands)) = granted_more k grants (record { run = run; job = job }) (numbers.of_jobs job run old stands)
    by_job job run (inr (end, is)) = granted_is k grants job run end is

    by_run : (r : Run) → RunBefore v k r → IsIn (record { run = r.run; job = r.job }) (grants_with k grants)
    by_run r (inl (s, old, run, job, slot)) =
        let before : IsIn (record { run = s.run; job = s.job }) grants = numbers.of_runs s old in
        let with_run : IsIn (record { run = r.run; job = s.job }) grants = subst (λ n. IsIn (record { run = n; job = s.job }) grants) run before in
        let with_job : IsIn (record { run = r.run; job = r.job }) grants = subst (λ j. IsIn (record { run = r.run; job = j }) grants) job with_run in
        granted_more k grants (record { run = r.run; job = r.job }) with_job
    by_run r (inr (marks, is)) = granted_more k grants (record { run = r.run; job = r.job }) (subst (IsBacked v grants) is backed).0

    by_said : (s : EndReport) → ReportBefore v k s → IsIn (record { run = s.run; job = s.job }) (grants_with k grants)
    by_said s (inl old) = granted_more k grants (record { run = s.run; job = s.job }) (numbers.of_reports s old)
    by_said s (inr (r, there, run, job, is)) =
        let before : IsIn (record { run = r.run; job = r.job }) grants = numbers.of_runs r there in
        let with_run : IsIn (record { run = s.run; job = r.job }) grants = subst (λ n. IsIn (record { run = n; job = r.job }) grants) (sym run) before in
        let with_job : IsIn (record { run = s.run; job = s.job }) grants = subst (λ j. IsIn (record { run = s.run; job = j }) grants) (sym job) with_run in
        granted_more k grants (record { run = s.run; job = s.job }) with_job

-- ---- sent leases
step_leases : (v : AbstractPool) (k : AbstractStep) (grants : List JobRun) (leases : List Lease) → Allowed v k → SentLeases v grants leases → SentLeases (view_after v k) (grants_with k grants) leases
step_leases v k grants leases ok sent = record {
  granted = λ l there. granted_more k grants (record { run = l.run; job = l.job }) (sent.granted l there);
  kept = λ l there. kept_on v k l.job l.run l.until ok (sent.kept l there);
  cores = λ l there. step_core v k l.job l.core ok (sent.cores l there);
}

-- ---- dead runs
-- a run that has stopped is dead
stopped_dead : (v : AbstractPool) (r : Run) (how : Option How) → RunsSpent v → IsIn r v.runs → IsDead (view_after v (Stop r how)) r.run
stopped_dead v r how spent there = (spent r there, none)
  where
    none : (s : Run) → IsIn s (filter (λ x. not (same_run x.run r.run)) v.runs) → s.run ≢ r.run
    none s left same =
        let passed : not (same_run s.run r.run) ≡ true = passes (λ x. not (same_run x.run r.run)) s v.runs left in
        let itself : not (same_run r.run r.run) ≡ true = subst (λ n. not (same_run n r.run) ≡ true) same passed in
        let equal : same_run r.run r.run ≡ true = same_run-same r.run in
        let no_more : not true ≡ true = subst (λ b. not b ≡ true) equal itself in
        cc

step_dead_runs : (v : AbstractPool) (k : AbstractStep) (gone : List RunNo) → Allowed v k → RunsSpent v → DeadRuns v gone → DeadRuns (view_after v k) gone
step_dead_runs v k gone ok spent dead = record {
  gone_dead = λ run there. step_dead v k run ok (dead.gone_dead run there);
  reported_dead = λ s there. by_said s (report_before v k s ok there);
}
  where
    by_said : (s : EndReport) → ReportBefore v k s → IsDead (view_after v k) s.run
    by_said s (inl old) = step_dead v k s.run ok (dead.reported_dead s old)
    by_said s (inr (r, there, run, job, is)) =
        subst (λ x. IsDead (view_after v x) s.run) (sym is) (subst (IsDead (view_after v (Stop r (Some s.how)))) (sym run) (stopped_dead v r (Some s.how) spent there))

-- ---- running runs
backed_sound : (v : AbstractPool) (k : AbstractStep) (grants : List JobRun) → IsBacked v grants k → MarksSound v.marks → MarksSound (view_after v k).marks
backed_sound v (Time moment) grants backed sound = sound
backed_sound v (Queue job core) grants backed sound = sound
backed_sound v (Acknowledge job) grants backed sound = sound
backed_sound v (Order job) grants backed sound = sound
backed_sound v (Grant job run end) grants backed sound = sound
backed_sound v (Start r marks) grants backed sound = backed.2
backed_sound v (Mark marks) grants backed sound = backed.0
backed_sound v (Extend r until) grants backed sound = sound
backed_sound v (Stop r how) grants backed sound = sound
backed_sound v (Free job state) grants backed sound = sound
backed_sound v (Finish job outcome) grants backed sound = sound
backed_sound v (Hold job) grants backed sound = sound
backed_sound v (Release job) grants backed sound = sound
backed_sound v (Lengthen job end) grants backed sound = sound

backed_held : (v : AbstractPool) (k : AbstractStep) (grants : List JobRun) (s : Run) → IsBacked v grants k → IsIn s v.runs → Holds v.marks s.run.claim → Holds (view_after v k).marks s.run.claim
backed_held v (Time moment) grants s backed there holds = holds
backed_held v (Queue job core) grants s backed there holds = holds
backed_held v (Acknowledge job) grants s backed there holds = holds
backed_held v (Order job) grants s backed there holds = holds
backed_held v (Grant job run end) grants s backed there holds = holds
backed_held v (Start r marks) grants s backed there holds = backed.3 s there
backed_held v (Mark marks) grants s backed there holds = backed.1 s there
backed_held v (Extend r until) grants s backed there holds = holds
backed_held v (Stop r how) grants s backed there holds = holds
backed_held v (Free job state) grants s backed there holds = holds
backed_held v (Finish job outcome) grants s backed there holds = holds
backed_held v (Hold job) grants s backed there holds = holds
backed_held v (Release job) grants s backed there holds = holds
backed_held v (Lengthen job end) grants s backed there holds = holds

step_claimed : (v : AbstractPool) (k : AbstractStep) (grants : List JobRun) → IsBacked v grants k → ((s : Run) → IsIn s v.runs → IsClaimed v.marks s) → (r : Run) → IsIn r (view_after v k).runs → IsClaimed (view_after v k).marks r
step_claimed v k grants backed claimed r there = by_source (run_before v k r there)
  where
    by_source : RunBefore v k r → IsClaimed (view_after v k).marks r
    by_source (inl (s, old, run, job, slot)) = (
      sym slot ∙ ((claimed s old).0 ∙ ap (λ n. n.claim.slot) run),
      subst (λ n. Holds (view_after v k).marks n.claim) run (backed_held v k grants s backed old (claimed s old).1),
    )
    by_source (inr (marks, is)) = subst (λ x. IsClaimed (view_after v x).marks r) (sym is) (subst (IsBacked v grants) is backed).1

step_running : (v : AbstractPool) (k : AbstractStep) (grants : List JobRun) → Safe v → Allowed v k → IsBacked v grants k → RunningRuns v → RunningRuns (view_after v k)
step_running v k grants safe ok backed running = record {
  spent = step_runs_spent v k running.spent ok;
  leased = step_leased v k safe ok running.leased;
  claimed = step_claimed v k grants backed running.claimed;
  marks = backed_sound v k grants backed running.marks;
}

-- ---- together
pub step_tracked : (v : AbstractPool) (k : AbstractStep) (grants : List JobRun) (leases : List Lease) (gone : List RunNo) → Allowed v k → IsBacked v grants k
    → Tracked v grants leases gone → Tracked (view_after v k) (grants_with k grants) leases gone
step_tracked v k grants leases gone ok backed t = record {
  safe = step_safe v k t.safe t.running.leased ok;
  numbers = step_numbers v k grants ok backed t.numbers;
  sent = step_leases v k grants leases ok t.sent;
  dead = step_dead_runs v k gone ok t.running.spent t.dead;
  running = step_running v k grants t.safe ok backed t.running;
}

pub steps_tracked : (v : AbstractPool) (ks : List AbstractStep) (grants : List JobRun) (leases : List Lease) (gone : List RunNo) → AllBacked v grants ks
    → Tracked v grants leases gone → Tracked (view_after_all v ks) (grants_with_all ks grants) leases gone
steps_tracked v [] grants leases gone backed t = t
steps_tracked v (k ∷ ks) grants leases gone backed t = steps_tracked (view_after v k) ks (grants_with k grants) leases gone backed.2 (step_tracked v k grants leases gone backed.0 backed.1 t)
