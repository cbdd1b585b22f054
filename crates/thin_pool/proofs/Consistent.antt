-- What always holds of a pool is kept by each event.
use Rattle.std.proofs.Common.{◌≡◌, ◌≢◌, ℕ, ◌+◌, ◌<◌, ◌≤◌, ◌⊎◌, inl, inr, List, [], ◌∷◌, ◌++◌, length, Option, Some, None, Bool, true, false, true≢false, ◌||◌, not, refl, sym, ◌∙◌, ap, subst, arith, if◌then◌else◌, cond, IfSome, IsSome, IsSomeAnd, is_some}
use Rattle.std.specs.Prelude.{option_map, nat_lt}
use Rattle.std.specs.List.{count_by}
use Rattle.std.proofs.lemmas.List.{length-append}
use Rattle.std.proofs.lemmas.List.Sums.{sum_by-append}
use Rattle.std.proofs.lemmas.Bool.{ltb-true, ltb-false}
use Rattle.ad_tree.specs.Ad.{Attributes}
use Rattle.ad_eval.specs.Judgement.{Judgement}
use Rattle.claim_id.specs.declared.numbers.RunNo.{RunNo}
use Rattle.claim_id.specs.declared.numbers.JobId.{JobId}
use Rattle.claim_id.specs.declared.numbers.SlotId.{SlotId}
use Rattle.pool_mail.specs.declared.end.End.{End}
use Rattle.pool_mail.specs.declared.end.End.TheVariants.{Exited, Signalled, NotStarted}
use Rattle.pool_view.specs.Numbers.{same_job, same_slot}
use Rattle.pool_view.proofs.Sameness.{same_job-true, same_slot-true}
use Rattle.thin_pool.specs.declared.answer.StepError.TheVariants as error
use Rattle.thin_pool.specs.declared.event.Event.{Event}
use Rattle.thin_pool.specs.declared.event.Event.TheVariants as event
use Rattle.thin_pool.specs.declared.job.Job.{Job}
use Rattle.thin_pool.specs.declared.job.Phase.{Phase}
use Rattle.thin_pool.specs.declared.job.Phase.TheVariants as phase
use Rattle.thin_pool.specs.declared.job.SlotRun.{SlotRun}
use Rattle.thin_pool.specs.declared.slot.PoolSlot.{PoolSlot}
use Rattle.thin_pool.specs.PoolValue.{PoolValue, job_at, run_at, run_no, slot_at, has_started, is_idle, HasItsRun, IsConsistent}
use Rattle.thin_pool.specs.Reactions.{opening_pool, is_idle_job, run_in, run_of_job, is_judged, start_refusal, open_refusal, refusal, numbered_jobs, takes_number, last_cluster_after, with_phase, without_run, phase_after, with_jobs, with_run, with_end_of, with_event, pool_after}
use Rattle.thin_pool.proofs.Tables.{weight, jobs_told, slots_told, no_others, value_at-append, value_at-append-some, value_at-new, value_at-old, once_new, in_phase, job_at-own, job_at-other, once_with_phase, length-with_phase, count-with_phase, job_at-none, length-numbered, count-numbered, cluster-numbered, idle-numbered, once_numbered, run_at-without-other, run_at-without-none, run_at-without-own, once_without}

-- ---- what a refusal that there isn't says
-- a pool that accepts an event is open
pub open_before : (p : PoolValue) (e : Event) → refusal p e ≡ None → p.closed ≡ false
open_before p e ok = by_test p.closed ok
  where
    by_test : (b : Bool) → (if b then Some error.Closed else open_refusal p e) ≡ None → b ≡ false
    by_test true ok = cc
    by_test false ok = refl

-- and refuses it for no other cause
pub opened : (p : PoolValue) (e : Event) → refusal p e ≡ None → open_refusal p e ≡ None
opened p e ok = by_test p.closed ok
  where
    by_test : (b : Bool) → (if b then Some error.Closed else open_refusal p e) ≡ None → open_refusal p e ≡ None
    by_test true ok = cc
    by_test false ok = ok

pub few_enough : (n : ℕ) → (if nat_lt 10000 n then Some error.Jobs else None) ≡ None → n ≤ 10000
few_enough n ok = by_test (nat_lt 10000 n) refl ok
  where
    by_test : (b : Bool) → nat_lt 10000 n ≡ b → (if b then Some error.Jobs else None) ≡ None → n ≤ 10000
    by_test true is ok = cc
    by_test false is ok = ltb-false 10000 n is

no_value : {A : Type 0} (o : Option A) → is_some o ≡ false → o ≡ None
no_value None h = refl
no_value (Some x) h = absurd (true≢false h)

-- why a Start is accepted
pub record Startable (p : PoolValue) (job : JobId) (slot : SlotId) (judged : Judgement) (reading : ℕ) : Type 0 where
  pub free : run_at slot p.runs ≡ None
  pub idle : is_idle_job (job_at job p.jobs) ≡ true
  pub its_match : is_judged (job_at job p.jobs) (slot_at slot p.slots) reading judged ≡ true

pub startable : (p : PoolValue) (job : JobId) (slot : SlotId) (judged : Judgement) (reading : ℕ) → start_refusal p job slot judged reading ≡ None → Startable p job slot judged reading
startable p job slot judged reading ok = by_tests (is_some (run_at slot p.runs)) (is_idle_job (job_at job p.jobs)) (is_judged (job_at job p.jobs) (slot_at slot p.slots) reading judged) refl refl refl ok
  where
    by_tests : (a b c : Bool) → is_some (run_at slot p.runs) ≡ a → is_idle_job (job_at job p.jobs) ≡ b → is_judged (job_at job p.jobs) (slot_at slot p.slots) reading judged ≡ c
        → (if a || not b then Some (error.Occupied slot job) else (if c then None else Some (error.AdMoved slot))) ≡ None → Startable p job slot judged reading
    by_tests true b c first second third ok = cc
    by_tests false false c first second third ok = cc
    by_tests false true false first second third ok = cc
    by_tests false true true first second third ok = record { free = no_value (run_at slot p.runs) first; idle = second; its_match = third }

-- the idle job, and that it is
pub idle_there : (o : Option Job) → is_idle_job o ≡ true → (j : Job) × (o ≡ Some j) × (j.phase ≡ phase.Idle)
idle_there None h = absurd (true≢false (sym h))
idle_there (Some j) h = (j, refl, by_phase j.phase h)
  where
    by_phase : (ph : Phase) → is_idle ph ≡ true → ph ≡ phase.Idle
    by_phase phase.Idle h = refl
    by_phase (phase.Running run until) h = absurd (true≢false (sym h))
    by_phase (phase.Held run) h = absurd (true≢false (sym h))
    by_phase (phase.Finished run end) h = absurd (true≢false (sym h))

-- the job and the slot of a match
pub judged_there : (a : Option Job) (b : Option PoolSlot) (reading : ℕ) (judged : Judgement) → is_judged a b reading judged ≡ true → (s : PoolSlot) × (b ≡ Some s)
judged_there None b reading judged h = absurd (true≢false (sym h))
judged_there (Some j) None reading judged h = absurd (true≢false (sym h))
judged_there (Some j) (Some s) reading judged h = (s, refl)

pub placed_start : (p : PoolValue) (job : JobId) (slot : SlotId) (judged : Judgement) (reading : ℕ) → refusal p (event.Start job slot judged reading) ≡ None → IsSome (slot_at slot p.slots)
placed_start p job slot judged reading ok =
    let is = startable p job slot judged reading (opened p (event.Start job slot judged reading) ok) in
    let there = judged_there (job_at job p.jobs) (slot_at slot p.slots) reading judged is.its_match in
    rw there.1 refl

-- a job that has a run, with the phase that it is in
pub record Runs (o : Option Job) (run : RunNo) : Type 0 where
  pub job : Job
  pub until : ℕ
  pub there : o ≡ Some job
  pub running : job.phase ≡ phase.Running run until

pub runs_there : (o : Option Job) (run : RunNo) → run_of_job o ≡ Some run → Runs o run
runs_there None run h = cc
runs_there (Some j) run h = by_phase j.phase refl h
  where
    by_phase : (ph : Phase) → j.phase ≡ ph → run_in ph ≡ Some run → Runs (Some j) run
    by_phase phase.Idle is h = cc
    by_phase (phase.Running own until) is h =
        let same : own ≡ run = cc in
        record { job = j; until = until; there = refl; running = is ∙ ap (λ r. phase.Running r until) same }
    by_phase (phase.Held own) is h = cc
    by_phase (phase.Finished own end) is h = cc

-- ---- Submit
pub submit_consistent : (p : PoolValue) (ads : List Attributes) → IsConsistent p → length p.jobs + length ads ≤ 10000 → IsConsistent (with_jobs p ads)
submit_consistent p ads is few = record {
  jobs_once = once_numbered (p.last_cluster + 1) 0 ads p.jobs is.jobs_once (λ id there. inl (omega (arith, is.numbered id there)));
  runs_once = is.runs_once;
  placed = is.placed;
  few = omega (arith, few, length-append p.jobs new, length-numbered (p.last_cluster + 1) 0 ads);
  last_cluster_few = fewer ads;
  numbered = λ id there. by_place id there (value_at-append same_job id p.jobs new);
  counted = is.counted ∙ sym (count-append ∙ more);
  run_numbers = is.run_numbers;
  its_runs = λ id. by_run id (value_at-append same_job id p.jobs new);
}
  where
    new : List (JobId × Job)
    new = numbered_jobs (p.last_cluster + 1) 0 ads

    fewer : (xs : List Attributes) → last_cluster_after p.last_cluster xs ≤ 4294957293 + length (p.jobs ++ numbered_jobs (p.last_cluster + 1) 0 xs)
    fewer [] = by_test (nat_lt p.last_cluster 4294957293) refl
      where
        by_test : (b : Bool) → nat_lt p.last_cluster 4294957293 ≡ b → (if b then p.last_cluster + 1 else p.last_cluster) ≤ 4294957293 + length (p.jobs ++ [])
        by_test true less = let below : p.last_cluster < 4294957293 = ltb-true p.last_cluster 4294957293 less in omega arith
        by_test false less = omega (arith, is.last_cluster_few, length-append p.jobs [])
    fewer (x ∷ xs) = omega (arith, is.last_cluster_few, length-append p.jobs (numbered_jobs (p.last_cluster + 1) 0 (x ∷ xs)), length-numbered (p.last_cluster + 1) 0 (x ∷ xs))

    count-append : count_by has_started (p.jobs ++ new) ≡ count_by has_started p.jobs + count_by has_started new
    count-append = sum_by-append (λ e. cond (has_started e) 1 0) p.jobs new

    more : count_by has_started p.jobs + count_by has_started new ≡ count_by has_started p.jobs
    more = omega (arith, count-numbered (p.last_cluster + 1) 0 ads)

    grown : (xs : List Attributes) → p.last_cluster ≤ last_cluster_after p.last_cluster xs
    grown xs = by_test (takes_number p.last_cluster xs)
      where
        by_test : (b : Bool) → p.last_cluster ≤ (if b then p.last_cluster + 1 else p.last_cluster)
        by_test true = omega arith
        by_test false = omega arith

    of_new : (id : JobId) (xs : List Attributes) → IsSome (job_at id (numbered_jobs (p.last_cluster + 1) 0 xs)) → id.cluster ≤ last_cluster_after p.last_cluster xs
    of_new id [] there = absurd (true≢false (sym there))
    of_new id (x ∷ xs) there = omega (arith, cluster-numbered id (p.last_cluster + 1) 0 (x ∷ xs) there)

    by_place : (id : JobId) → IsSome (job_at id (p.jobs ++ new)) → (job_at id (p.jobs ++ new) ≡ job_at id p.jobs) ⊎ ((job_at id p.jobs ≡ None) × (job_at id (p.jobs ++ new) ≡ job_at id new)) → id.cluster ≤ last_cluster_after p.last_cluster ads
    by_place id there (inl old) = omega (arith, is.numbered id (subst IsSome old there), grown ads)
    by_place id there (inr h) = of_new id ads (subst IsSome h.1 there)

    waiting : (id : JobId) (o : Option Job) → IfSome o (λ j. j.phase ≡ phase.Idle) → IfSome o (λ j. HasItsRun id j.phase p.runs)
    waiting id None h = tt
    waiting id (Some j) h = subst (λ ph. HasItsRun id ph p.runs) (sym h) tt

    by_run : (id : JobId) → (job_at id (p.jobs ++ new) ≡ job_at id p.jobs) ⊎ ((job_at id p.jobs ≡ None) × (job_at id (p.jobs ++ new) ≡ job_at id new)) → IfSome (job_at id (p.jobs ++ new)) (λ j. HasItsRun id j.phase p.runs)
    by_run id (inl old) = subst (λ o. IfSome o (λ j. HasItsRun id j.phase p.runs)) (sym old) (is.its_runs id)
    by_run id (inr h) = subst (λ o. IfSome o (λ j. HasItsRun id j.phase p.runs)) (sym h.1) (waiting id (job_at id new) (idle-numbered id (p.last_cluster + 1) 0 ads))

-- ---- a job in another phase
-- what the table of jobs says but for the phases
numbered_on : (p : PoolValue) (job : JobId) (ph : Phase) → IsConsistent p → (id : JobId) → IsSome (job_at id (with_phase job ph p.jobs)) → id.cluster ≤ p.last_cluster
numbered_on p job ph is id there = is.numbered id (by (job_at id p.jobs) refl there)
  where
    by : (o : Option Job) → job_at id p.jobs ≡ o → IsSome (job_at id (with_phase job ph p.jobs)) → IsSome o
    by None none there = absurd (true≢false (sym there ∙ ap is_some (job_at-none id job ph p.jobs none)))
    by (Some j) some there = refl

-- ---- Start
pub start_consistent : (p : PoolValue) (job : JobId) (slot : SlotId) (judged : Judgement) (reading : ℕ) → IsConsistent p → Startable p job slot judged reading → IsConsistent (with_run p job slot judged reading)
start_consistent p job slot judged reading is ok = record {
  jobs_once = once_with_phase job ph p.jobs is.jobs_once;
  runs_once = once_new slots_told slot run p.runs is.runs_once ok.free;
  placed = λ q there. by_slot_placed q (same_slot q slot) refl there;
  few = omega (arith, is.few, length-with_phase job ph p.jobs);
  last_cluster_few = omega (arith, is.last_cluster_few, length-with_phase job ph p.jobs);
  numbered = numbered_on p job ph is;
  counted = omega (arith, is.counted, count-with_phase job ph j p.jobs idle.1, one);
  run_numbers = λ q. by_slot_number q (same_slot q slot) refl;
  its_runs = λ q. by_job q (same_job q job) refl;
}
  where
    ph : Phase
    ph = phase.Running (run_no slot (p.started + 1)) reading

    run : SlotRun
    run = record { job = job; number = p.started + 1; judged = judged; until = reading }

    idle : (j : Job) × (job_at job p.jobs ≡ Some j) × (j.phase ≡ phase.Idle)
    idle = idle_there (job_at job p.jobs) ok.idle

    j : Job
    j = idle.0

    one : weight (not (is_idle j.phase)) ≡ 0
    one = ap (λ k. weight (not (is_idle k))) idle.2

    at_slot : run_at slot (p.runs ++ (slot, run) ∷ []) ≡ Some run
    at_slot = value_at-new slots_told slot run p.runs ok.free

    there_slot : (s : PoolSlot) × (slot_at slot p.slots ≡ Some s)
    there_slot = judged_there (job_at job p.jobs) (slot_at slot p.slots) reading judged ok.its_match

    by_slot_placed : (q : SlotId) (b : Bool) → same_slot q slot ≡ b → IsSome (run_at q (p.runs ++ (slot, run) ∷ [])) → IsSome (slot_at q p.slots)
    by_slot_placed q true is_one there = ap (λ k. is_some (slot_at k p.slots)) (same_slot-true q slot is_one) ∙ ap is_some there_slot.1
    by_slot_placed q false is_one there = is.placed q (subst IsSome (value_at-old slots_told q slot run p.runs (no_others slots_told q slot is_one)) there)

    wider : (o : Option SlotRun) → IfSome o (λ r. r.number ≤ p.started) → IfSome o (λ r. r.number ≤ p.started + 1)
    wider None h = tt
    wider (Some r) h = omega (arith, h)

    by_slot_number : (q : SlotId) (b : Bool) → same_slot q slot ≡ b → IfSome (run_at q (p.runs ++ (slot, run) ∷ [])) (λ r. r.number ≤ p.started + 1)
    by_slot_number q true is_one =
        subst (λ o. IfSome o (λ r. r.number ≤ p.started + 1)) (sym (ap (λ k. run_at k (p.runs ++ (slot, run) ∷ [])) (same_slot-true q slot is_one) ∙ at_slot)) (omega arith)
    by_slot_number q false is_one =
        subst (λ o. IfSome o (λ r. r.number ≤ p.started + 1)) (sym (value_at-old slots_told q slot run p.runs (no_others slots_told q slot is_one))) (wider (run_at q p.runs) (is.run_numbers q))

    -- what a slot has, it still has
    kept_at : (q : JobId) (r : RunNo) (until : ℕ) (o : Option SlotRun) → run_at r.claim.slot p.runs ≡ o → IsSomeAnd o (λ s. (s.job ≡ q) × (run_no r.claim.slot s.number ≡ r) × (s.until ≡ until)) → IsSomeAnd (run_at r.claim.slot (p.runs ++ (slot, run) ∷ [])) (λ s. (s.job ≡ q) × (run_no r.claim.slot s.number ≡ r) × (s.until ≡ until))
    kept_at q r until None at h = absurd h
    kept_at q r until (Some s) at h = subst (λ o. IsSomeAnd o (λ s. (s.job ≡ q) × (run_no r.claim.slot s.number ≡ r) × (s.until ≡ until))) (sym (value_at-append-some same_slot r.claim.slot s p.runs ((slot, run) ∷ []) at)) h

    kept : (q : JobId) (x : Phase) → HasItsRun q x p.runs → HasItsRun q x (p.runs ++ (slot, run) ∷ [])
    kept q phase.Idle h = h
    kept q (phase.Running r until) h = kept_at q r until (run_at r.claim.slot p.runs) refl h
    kept q (phase.Held r) h = h
    kept q (phase.Finished r end) h = h

    kept_in : (q : JobId) (o : Option Job) → IfSome o (λ k. HasItsRun q k.phase p.runs) → IfSome o (λ k. HasItsRun q k.phase (p.runs ++ (slot, run) ∷ []))
    kept_in q None h = tt
    kept_in q (Some k) h = kept q k.phase h

    own_run : HasItsRun job ph (p.runs ++ (slot, run) ∷ [])
    own_run = subst (λ o. IsSomeAnd o (λ r. (r.job ≡ job) × (run_no slot r.number ≡ run_no slot (p.started + 1)) × (r.until ≡ reading))) (sym at_slot) (refl, refl, refl)

    by_job : (q : JobId) (b : Bool) → same_job q job ≡ b → IfSome (job_at q (with_phase job ph p.jobs)) (λ k. HasItsRun q k.phase (p.runs ++ (slot, run) ∷ []))
    by_job q true is_one =
        subst (λ x. IfSome (job_at x (with_phase job ph p.jobs)) (λ k. HasItsRun x k.phase (p.runs ++ (slot, run) ∷ []))) (sym (same_job-true q job is_one))
        (subst (λ o. IfSome o (λ k. HasItsRun job k.phase (p.runs ++ (slot, run) ∷ []))) (sym (job_at-own job ph p.jobs ∙ ap (option_map (in_phase ph)) idle.1)) own_run)
    by_job q false is_one =
        subst (λ o. IfSome o (λ k. HasItsRun q k.phase (p.runs ++ (slot, run) ∷ []))) (sym (job_at-other q job ph p.jobs (no_others jobs_told q job is_one))) (kept_in q (job_at q p.jobs) (is.its_runs q))

-- ---- Ended
-- what a job's run leaves behind is no run
no_run_after : (job : JobId) (run : RunNo) (end : End) (runs : List (SlotId × SlotRun)) → HasItsRun job (phase_after run end) runs
no_run_after job run (Exited code) runs = tt
no_run_after job run (Signalled signal) runs = tt
no_run_after job run NotStarted runs = tt

not_idle_after : (run : RunNo) (end : End) → is_idle (phase_after run end) ≡ false
not_idle_after run (Exited code) = refl
not_idle_after run (Signalled signal) = refl
not_idle_after run NotStarted = refl

-- the slot's run is the job's
pub record OwnRun (p : PoolValue) (job : JobId) (run : RunNo) (until : ℕ) : Type 0 where
  pub run_there : SlotRun
  pub at_slot : run_at run.claim.slot p.runs ≡ Some run_there
  pub its_job : run_there.job ≡ job
  pub its_number : run_no run.claim.slot run_there.number ≡ run

pub own_run_of : (p : PoolValue) (job : JobId) (run : RunNo) → IsConsistent p → (r : Runs (job_at job p.jobs) run) → OwnRun p job run r.until
own_run_of p job run is r = by (run_at run.claim.slot p.runs) refl its
  where
    its : HasItsRun job (phase.Running run r.until) p.runs
    its = subst (λ ph. HasItsRun job ph p.runs) r.running (subst (λ o. IfSome o (λ j. HasItsRun job j.phase p.runs)) r.there (is.its_runs job))

    by : (o : Option SlotRun) → run_at run.claim.slot p.runs ≡ o → IsSomeAnd o (λ s. (s.job ≡ job) × (run_no run.claim.slot s.number ≡ run) × (s.until ≡ r.until)) → OwnRun p job run r.until
    by None at h = absurd h
    by (Some s) at h = record { run_there = s; at_slot = at; its_job = h.0; its_number = h.1 }

pub end_consistent : (p : PoolValue) (job : JobId) (end : End) (run : RunNo) → IsConsistent p → Runs (job_at job p.jobs) run → IsConsistent (with_end_of p job end (Some run))
end_consistent p job end run is r = record {
  jobs_once = once_with_phase job ph p.jobs is.jobs_once;
  runs_once = once_without run.claim.slot p.runs is.runs_once;
  placed = λ q there. is.placed q (there_before q (run_at q p.runs) refl there);
  few = omega (arith, is.few, length-with_phase job ph p.jobs);
  last_cluster_few = omega (arith, is.last_cluster_few, length-with_phase job ph p.jobs);
  numbered = numbered_on p job ph is;
  counted = omega (arith, is.counted, count-with_phase job ph r.job p.jobs r.there, old, new);
  run_numbers = λ q. by_slot_number q (same_slot q run.claim.slot) refl;
  its_runs = λ q. by_job q (same_job q job) refl;
}
  where
    ph : Phase
    ph = phase_after run end

    own : OwnRun p job run r.until
    own = own_run_of p job run is r

    left : List (SlotId × SlotRun)
    left = without_run run.claim.slot p.runs

    old : weight (not (is_idle r.job.phase)) ≡ 1
    old = ap (λ k. weight (not (is_idle k))) r.running

    new : weight (not (is_idle (phase_after run end))) ≡ 1
    new = ap (λ b. weight (not b)) (not_idle_after run end)

    gone : run_at run.claim.slot (without_run run.claim.slot p.runs) ≡ None
    gone = run_at-without-own run.claim.slot p.runs is.runs_once

    there_before : (q : SlotId) (o : Option SlotRun) → run_at q p.runs ≡ o → IsSome (run_at q (without_run run.claim.slot p.runs)) → IsSome o
    there_before q None none there = absurd (true≢false (sym there ∙ ap is_some (run_at-without-none q run.claim.slot p.runs none)))
    there_before q (Some s) some there = refl

    by_slot_number : (q : SlotId) (b : Bool) → same_slot q run.claim.slot ≡ b → IfSome (run_at q (without_run run.claim.slot p.runs)) (λ s. s.number ≤ p.started)
    by_slot_number q true is_one =
        subst (λ o. IfSome o (λ s. s.number ≤ p.started)) (sym (ap (λ k. run_at k (without_run run.claim.slot p.runs)) (same_slot-true q run.claim.slot is_one) ∙ gone)) tt
    by_slot_number q false is_one =
        subst (λ o. IfSome o (λ s. s.number ≤ p.started)) (sym (run_at-without-other q run.claim.slot p.runs (no_others slots_told q run.claim.slot is_one))) (is.run_numbers q)

    -- the slot of another job's run is another
    other_slot : (q : JobId) (o : RunNo) (until : ℕ) → q ≢ job → HasItsRun q (phase.Running o until) p.runs → o.claim.slot ≢ run.claim.slot
    other_slot q o until other h same =
        let there = subst (λ x. IsSomeAnd x (λ s. (s.job ≡ q) × (run_no o.claim.slot s.number ≡ o) × (s.until ≡ until))) (ap (λ k. run_at k p.runs) same ∙ own.at_slot) h in
        other (sym there.0 ∙ own.its_job)

    kept : (q : JobId) (x : Phase) → q ≢ job → HasItsRun q x p.runs → HasItsRun q x (without_run run.claim.slot p.runs)
    kept q phase.Idle other h = h
    kept q (phase.Running o until) other h = subst (λ x. IsSomeAnd x (λ s. (s.job ≡ q) × (run_no o.claim.slot s.number ≡ o) × (s.until ≡ until))) (sym (run_at-without-other o.claim.slot run.claim.slot p.runs (other_slot q o until other h))) h
    kept q (phase.Held o) other h = h
    kept q (phase.Finished o how) other h = h

    kept_in : (q : JobId) (o : Option Job) → q ≢ job → IfSome o (λ k. HasItsRun q k.phase p.runs) → IfSome o (λ k. HasItsRun q k.phase (without_run run.claim.slot p.runs))
    kept_in q None other h = tt
    kept_in q (Some k) other h = kept q k.phase other h

    by_job : (q : JobId) (b : Bool) → same_job q job ≡ b → IfSome (job_at q (with_phase job (phase_after run end) p.jobs)) (λ k. HasItsRun q k.phase (without_run run.claim.slot p.runs))
    by_job q true is_one =
        subst (λ x. IfSome (job_at x (with_phase job (phase_after run end) p.jobs)) (λ k. HasItsRun x k.phase (without_run run.claim.slot p.runs))) (sym (same_job-true q job is_one))
        (subst (λ o. IfSome o (λ k. HasItsRun job k.phase (without_run run.claim.slot p.runs))) (sym (job_at-own job (phase_after run end) p.jobs ∙ ap (option_map (in_phase (phase_after run end))) r.there)) (no_run_after job run end (without_run run.claim.slot p.runs)))
    by_job q false is_one =
        let other = no_others jobs_told q job is_one in
        subst (λ o. IfSome o (λ k. HasItsRun q k.phase (without_run run.claim.slot p.runs))) (sym (job_at-other q job (phase_after run end) p.jobs other)) (kept_in q (job_at q p.jobs) other (is.its_runs q))

-- ---- every event
-- moment and close say nothing of it
reclosed : (p : PoolValue) (latest : ℕ) (closed : Bool) → IsConsistent p → IsConsistent (record p { latest = latest; closed = closed })
reclosed p latest closed is = record {
  jobs_once = is.jobs_once;
  runs_once = is.runs_once;
  placed = is.placed;
  few = is.few;
  last_cluster_few = is.last_cluster_few;
  numbered = is.numbered;
  counted = is.counted;
  run_numbers = is.run_numbers;
  its_runs = is.its_runs;
}

pub some_run : (o : Option RunNo) (job : JobId) → (if is_some o then None else Some (error.NoRun job)) ≡ None → (run : RunNo) × (o ≡ Some run)
some_run None job h = cc
some_run (Some run) job h = (run, refl)

pub changed_consistent : (p : PoolValue) (ev : Event) → IsConsistent p → open_refusal p ev ≡ None → IsConsistent (with_event p ev)
changed_consistent p (event.Submit jobs reading) is ok = submit_consistent p jobs is (few_enough (length p.jobs + length jobs) ok)
changed_consistent p (event.Start job slot judged reading) is ok = start_consistent p job slot judged reading is (startable p job slot judged reading ok)
changed_consistent p (event.Ended job end reading) is ok =
    let found = some_run (run_of_job (job_at job p.jobs)) job ok in
    subst (λ o. IsConsistent (with_end_of p job end o)) (sym found.1) (end_consistent p job end found.0 is (runs_there (job_at job p.jobs) found.0 found.1))
changed_consistent p (event.Close reading none) is ok = reclosed p p.latest true is

pub after_consistent : (p : PoolValue) (ev : Event) → IsConsistent p → refusal p ev ≡ None → IsConsistent (pool_after p ev)
after_consistent p ev is ok = reclosed (with_event p ev) (pool_after p ev).latest (with_event p ev).closed (changed_consistent p ev is (opened p ev ok))

pub opening_consistent : (slots : List PoolSlot) → IsConsistent (opening_pool slots)
opening_consistent slots = record {
  jobs_once = tt;
  runs_once = tt;
  placed = λ slot there. absurd (true≢false (sym there));
  few = omega arith;
  last_cluster_few = omega arith;
  numbered = λ id there. absurd (true≢false (sym there));
  counted = refl;
  run_numbers = λ slot. tt;
  its_runs = λ id. tt;
}
