-- Each event of a pool makes its abstract steps, and each pool of a history is safe.
use Rattle.std.proofs.Common.{◌≡◌, ◌≢◌, ℕ, ◌+◌, ◌<◌, ◌≤◌, inl, inr, List, [], ◌∷◌, ◌++◌, map, filter, Option, Some, None, Bool, true, false, true≢false, ◌&&◌, ◌==◌, not, max, refl, sym, ◌∙◌, ap, subst, arith, append_assoc, if◌then◌else◌, IfSome, IsSome, IsSomeAnd, is_some}
use Rattle.std.specs.Prelude.{nat_lt, option_map}
use Rattle.std.specs.List.{filter_map}
use Rattle.std.proofs.lemmas.List.{append-nil}
use Rattle.std.proofs.lemmas.List.Elements.{filter_map-append}
use Rattle.std.proofs.lemmas.Bool.{ltb-true, ltb-false}
use Rattle.ad_tree.specs.Ad.{Attributes}
use Rattle.ad_eval.specs.Judgement.{Judgement}
use Rattle.claim_id.specs.declared.numbers.RunNo.{RunNo}
use Rattle.claim_id.specs.declared.numbers.JobId.{JobId}
use Rattle.claim_id.specs.declared.numbers.SlotId.{SlotId}
use Rattle.pool_mail.specs.declared.end.End.{End}
use Rattle.pool_mail.specs.declared.end.End.TheVariants.{Exited, Signalled, NotStarted}
use Rattle.pool_mail.specs.declared.end.How.{How}
use Rattle.pool_view.specs.declared.job.State.{State}
use Rattle.pool_view.specs.declared.job.State.TheVariants.{Idle, Under}
use Rattle.pool_view.specs.declared.run.Run.{Run}
use Rattle.pool_view.specs.declared.run.EndReport.{EndReport}
use Rattle.pool_view.specs.Ads.{core_of}
use Rattle.pool_view.specs.AbstractPool.{AbstractPool, IsIn, SameMembers, SameView, IsSpentAt, IsSpentBy, IsDead, KeepsSpent, Stands, HasCore, set}
use Rattle.pool_view.specs.AbstractStep.{AbstractStep, Time, Stop, IsOver, entry_with_state, with_state, view_after, Takes}
use Rattle.pool_view.specs.Numbers.{same_job, same_run}
use Rattle.pool_view.specs.Safe.{Safe, RunsLeased}
use Rattle.pool_view.proofs.Sameness.{both_true, same_job-true, same_run-same}
use Rattle.pool_view.proofs.Steps.{changed_core, takes_safe}
use Rattle.pool_view.proofs.Members.{passes}
use Rattle.thin_pool.specs.declared.event.Event.{Event}
use Rattle.thin_pool.specs.declared.event.Event.TheVariants as event
use Rattle.thin_pool.specs.declared.history.Step.{Step}
use Rattle.thin_pool.specs.declared.job.Job.{Job}
use Rattle.thin_pool.specs.declared.job.Phase.{Phase}
use Rattle.thin_pool.specs.declared.job.Phase.TheVariants as phase
use Rattle.thin_pool.specs.declared.job.SlotRun.{SlotRun}
use Rattle.thin_pool.specs.declared.slot.PoolSlot.{PoolSlot}
use Rattle.thin_pool.specs.Events.{reading_of}
use Rattle.thin_pool.specs.Histories.{LeadsTo}
use Rattle.thin_pool.specs.Moving.{time_to, submit_steps, start_steps, end_step, stop_steps, end_steps, own_steps, steps_of, EachMoves}
use Rattle.thin_pool.specs.PoolValue.{PoolValue, job_at, run_at, run_no, slot_at, IsConsistent}
use Rattle.thin_pool.specs.Reactions.{opening_pool, refusal, open_refusal, is_judged, run_of_job, numbered_jobs, with_phase, without_run, phase_after, with_end_of, pool_after}
use Rattle.thin_pool.specs.Sameness.{same_ad}
use Rattle.thin_pool.specs.View.{how_of_end, run_of, job_state, entry_of, report_of, mark_after, marks_after, view_of}
use Rattle.thin_pool.proofs.Consistent.{opened, Startable, startable, idle_there, runs_there, own_run_of, some_run, after_consistent, opening_consistent}
use Rattle.thin_pool.proofs.Same.{same_ad-true}
use Rattle.thin_pool.proofs.Tables.{jobs_told, no_others, value_at-new, value_at-old, in_phase, job_at-own, job_at-other, map-with_phase, AreBefore, free_before, before_next, in_runs, run_in_runs, in_snoc, stopped_runs, said_in, IsSilent, said_unchanged, said_more, same_members}

-- A step of time is left out where the reading isn't later.
timed : (v w : AbstractPool) (reading : ℕ) (ks : List AbstractStep) → Takes (record v { moment = max v.moment reading }) ks w → Takes v (time_to v.moment reading ++ ks) w
timed v w reading ks rest = by_test (nat_lt v.moment reading) refl
  where
    by_test : (b : Bool) → nat_lt v.moment reading ≡ b → Takes v ((if b then Time reading ∷ [] else []) ++ ks) w
    by_test true is =
        let later : v.moment < reading = ltb-true v.moment reading is in
        let greatest : max v.moment reading ≡ reading = omega arith in
        (omega arith, subst (λ m. Takes (record v { moment = m }) ks w) greatest rest)
    by_test false is =
        let no_later : reading ≤ v.moment = ltb-false v.moment reading is in
        let greatest : max v.moment reading ≡ v.moment = omega arith in
        subst (λ m. Takes (record v { moment = m }) ks w) greatest rest

-- ---- Submit
-- each is queued, and then acknowledged
submit_takes : (ads : List Attributes) (cluster proc : ℕ) (jobs : List (JobId × Job)) (v w : AbstractPool)
    → AreBefore cluster proc jobs
    → ((q : JobId) → v.jobs q ≡ option_map entry_of (job_at q jobs))
    → ((q : JobId) → w.jobs q ≡ option_map entry_of (job_at q (jobs ++ numbered_jobs cluster proc ads)))
    → SameMembers v.acked (map (λ e. e.0) jobs)
    → SameMembers (map (λ e. e.0) (jobs ++ numbered_jobs cluster proc ads)) w.acked
    → SameView (record v { jobs = w.jobs; acked = w.acked }) w
    → Takes v (submit_steps (numbered_jobs cluster proc ads)) w
submit_takes [] cluster proc jobs v w before has gets acked more same = record {
  moment = same.moment;
  next = same.next;
  jobs = λ q. gets q ∙ ap (λ l. option_map entry_of (job_at q l)) (append-nil jobs) ∙ sym (has q);
  acked = λ q. (λ h. (more q).0 (subst (λ l. IsIn q (map (λ e. e.0) l)) (sym (append-nil jobs)) ((acked q).0 h)), λ h. (acked q).1 (subst (λ l. IsIn q (map (λ e. e.0) l)) (append-nil jobs) ((more q).1 h)));
  ordered = same.ordered;
  runs = same.runs;
  marks = same.marks;
  reports = same.reports;
  slots = same.slots;
}
submit_takes (ad ∷ ads) cluster proc jobs v w before has gets acked more same =
    let next_jobs : List (JobId × Job) = jobs ++ (new, j) ∷ [] in
    let whole : next_jobs ++ numbered_jobs cluster (proc + 1) ads ≡ jobs ++ numbered_jobs cluster proc (ad ∷ ads) = append_assoc jobs ((new, j) ∷ []) (numbered_jobs cluster (proc + 1) ads) in (
      has new ∙ ap (option_map entry_of) free,
      (
        subst IsSome (sym (queued new ∙ ap (option_map entry_of) (value_at-new jobs_told new j jobs free))) refl,
        submit_takes ads cluster (proc + 1) next_jobs (record v { jobs = set same_job v.jobs new (Some (record { core = core_of ad; state = Idle })); acked = new ∷ v.acked }) w
            (before_next cluster proc j jobs before)
            queued
            (λ q. gets q ∙ ap (λ l. option_map entry_of (job_at q l)) (sym whole))
            acked_too
            (λ q. (λ h. (more q).0 (subst (λ l. IsIn q (map (λ e. e.0) l)) whole h), λ h. subst (λ l. IsIn q (map (λ e. e.0) l)) (sym whole) ((more q).1 h)))
            (record { moment = same.moment; next = same.next; jobs = same.jobs; acked = same.acked; ordered = same.ordered; runs = same.runs; marks = same.marks; reports = same.reports; slots = same.slots }),
      ),
    )
  where
    new : JobId
    new = record { cluster = cluster; proc = proc }

    j : Job
    j = record { ad = ad; phase = phase.Idle }

    free : job_at new jobs ≡ None
    free = free_before cluster proc jobs before

    queued : (q : JobId) → set same_job v.jobs new (Some (record { core = core_of ad; state = Idle })) q ≡ option_map entry_of (job_at q (jobs ++ (new, j) ∷ []))
    queued q = by (same_job q new) refl
      where
        by : (b : Bool) → same_job q new ≡ b → (if b then Some (record { core = core_of ad; state = Idle }) else v.jobs q) ≡ option_map entry_of (job_at q (jobs ++ (new, j) ∷ []))
        by true is = sym (ap (λ k. option_map entry_of (job_at k (jobs ++ (new, j) ∷ []))) (same_job-true q new is) ∙ ap (option_map entry_of) (value_at-new jobs_told new j jobs free))
        by false is = has q ∙ ap (option_map entry_of) (sym (value_at-old jobs_told q new j jobs (no_others jobs_told q new is)))

    keys-snoc : (l : List (JobId × Job)) → map (λ e. e.0) (l ++ (new, j) ∷ []) ≡ map (λ e. e.0) l ++ new ∷ []
    keys-snoc [] = refl
    keys-snoc (x ∷ xs) = ap (λ m. x.0 ∷ m) (keys-snoc xs)

    before_new : (q : JobId) → IsIn q (new ∷ v.acked) → IsIn q (new ∷ map (λ e. e.0) jobs)
    before_new q (inl e) = inl e
    before_new q (inr h) = inr ((acked q).0 h)

    and_back : (q : JobId) → IsIn q (new ∷ map (λ e. e.0) jobs) → IsIn q (new ∷ v.acked)
    and_back q (inl e) = inl e
    and_back q (inr h) = inr ((acked q).1 h)

    acked_too : SameMembers (new ∷ v.acked) (map (λ e. e.0) (jobs ++ (new, j) ∷ []))
    acked_too q = (
      λ h. subst (IsIn q) (sym (keys-snoc jobs)) ((in_snoc new (map (λ e. e.0) jobs) q).0 (before_new q h)),
      λ h. and_back q ((in_snoc new (map (λ e. e.0) jobs) q).1 (subst (IsIn q) (keys-snoc jobs) h)),
    )

-- ---- what a job's new phase changes
-- the entries are those of the abstract pool with the job's state changed
rephased : (p : PoolValue) (job : JobId) (ph : Phase) (q : JobId) → option_map entry_of (job_at q (with_phase job ph p.jobs)) ≡ (with_state (view_of p) job (λ _. job_state ph)).jobs q
rephased p job ph q = by (same_job q job) refl
  where
    own : (o : Option Job) → option_map entry_of (option_map (in_phase ph) o) ≡ option_map (entry_with_state (λ _. job_state ph)) (option_map entry_of o)
    own None = refl
    own (Some j) = refl

    by : (b : Bool) → same_job q job ≡ b → option_map entry_of (job_at q (with_phase job ph p.jobs)) ≡ (if b then option_map (entry_with_state (λ _. job_state ph)) (option_map entry_of (job_at job p.jobs)) else option_map entry_of (job_at q p.jobs))
    by true is = ap (λ k. option_map entry_of (job_at k (with_phase job ph p.jobs))) (same_job-true q job is) ∙ ap (option_map entry_of) (job_at-own job ph p.jobs) ∙ own (job_at job p.jobs)
    by false is = ap (option_map entry_of) (job_at-other q job ph p.jobs (no_others jobs_told q job is))

-- the same jobs were acknowledged
same_acked : (job : JobId) (ph : Phase) (jobs : List (JobId × Job)) → SameMembers (map (λ e. e.0) jobs) (map (λ e. e.0) (with_phase job ph jobs))
same_acked job ph jobs = subst (SameMembers (map (λ e. e.0) jobs)) (sym (map-with_phase (λ e. e.0) job ph jobs (λ e. refl))) (same_members (map (λ e. e.0) jobs))

-- a job's state
stands_in : (p : PoolValue) (job : JobId) (j : Job) (state : State) → job_at job p.jobs ≡ Some j → job_state j.phase ≡ state → Stands (view_of p) job state
stands_in p job j state there is = subst (λ o. IsSomeAnd (option_map entry_of o) (λ e. e.state ≡ state)) (sym there) is

-- ---- marks
-- by the mark of a slot that is there, so many runs are spent
spent_up_to : (slots : List PoolSlot) (last : ℕ) (slot : SlotId) (number : ℕ) → IsSome (slot_at slot slots) → number ≤ last → IsSpentBy (marks_after slots last) (run_no slot number)
spent_up_to slots last slot number there within = by (slot_at slot slots) there
  where
    by : (o : Option PoolSlot) → IsSome o → IsSomeAnd (option_map (λ _. mark_after last slot) o) (IsSpentAt (run_no slot number))
    by None h = absurd (true≢false (sym h))
    by (Some s) h = inr (inr (refl, within))

-- and the next is not
unspent_after : (slots : List PoolSlot) (last : ℕ) (slot : SlotId) (number : ℕ) → last < number → IsSpentBy (marks_after slots last) (run_no slot number) → ⊥
unspent_after slots last slot number beyond spent = by (slot_at slot slots) spent
  where
    by : (o : Option PoolSlot) → IsSomeAnd (option_map (λ _. mark_after last slot) o) (IsSpentAt (run_no slot number)) → ⊥
    by None h = h
    by (Some s) (inl h) = omega (arith, h)
    by (Some s) (inr (inl h)) = omega (arith, h.1)
    by (Some s) (inr (inr h)) = omega (arith, beyond, h.1)

-- the slots' marks lose no spent run as the pool uses numbers
more_used : (slots : List PoolSlot) (m n : ℕ) → m ≤ n → KeepsSpent (marks_after slots m) (marks_after slots n)
more_used slots m n more run spent = by (slot_at run.claim.slot slots) spent
  where
    by : (o : Option PoolSlot) → IsSomeAnd (option_map (λ _. mark_after m run.claim.slot) o) (IsSpentAt run) → IsSomeAnd (option_map (λ _. mark_after n run.claim.slot) o) (IsSpentAt run)
    by None h = h
    by (Some s) (inl h) = inl h
    by (Some s) (inr (inl h)) = inr (inl h)
    by (Some s) (inr (inr h)) = inr (inr (h.0, omega (arith, h.1)))

-- ---- Start
record Matched (a : Option Job) (b : Option PoolSlot) (judged : Judgement) : Type 0 where
  job : Job
  slot : PoolSlot
  job_there : a ≡ Some job
  slot_there : b ≡ Some slot
  job_ad : judged.job ≡ job.ad
  slot_ad : judged.slot ≡ slot.ad

matched : (a : Option Job) (b : Option PoolSlot) (reading : ℕ) (judged : Judgement) → is_judged a b reading judged ≡ true → Matched a b judged
matched None b reading judged h = absurd (true≢false (sym h))
matched (Some j) None reading judged h = absurd (true≢false (sym h))
matched (Some j) (Some s) reading judged h =
    let ads = (both_true (judged.at == reading) (same_ad judged.job j.ad && same_ad judged.slot s.ad) h).1 in
    let both = both_true (same_ad judged.job j.ad) (same_ad judged.slot s.ad) ads in
    record { job = j; slot = s; job_there = refl; slot_there = refl; job_ad = same_ad-true judged.job j.ad both.0; slot_ad = same_ad-true judged.slot s.ad both.1 }

start_takes : (p : PoolValue) (job : JobId) (slot : SlotId) (judged : Judgement) (reading : ℕ) → IsConsistent p → Startable p job slot judged reading
    → Takes (record (view_of p) { moment = max p.latest reading }) (start_steps p job slot judged reading) (view_of (pool_after p (event.Start job slot judged reading)))
start_takes p job slot judged reading is ok = (
  (stands_in p job idle.0 Idle idle.1 (ap job_state idle.2), omega arith),
  (
    (
      record {
        unspent = unspent_after p.slots p.started slot (p.started + 1) (omega arith);
        new_number = new_number;
        claimed = refl;
        free = free;
        leased = inl (omega arith);
        slot_ad = ap (option_map (λ (s : PoolSlot). s.ad)) its.slot_there ∙ ap Some (sym its.slot_ad);
        job_ad = changed_core (view_of p) job (λ _. Under run reading) job (core_of judged.job) core;
        match = judged.fits;
      },
      spent_up_to p.slots (p.started + 1) slot (p.started + 1) (ap is_some its.slot_there) (omega arith),
      more_used p.slots p.started (p.started + 1) (omega arith),
    ),
    record {
      moment = refl;
      next = omega arith;
      jobs = rephased p job (phase.Running run reading);
      acked = same_acked job (phase.Running run reading) p.jobs;
      ordered = same_members [];
      runs = subst (SameMembers (run_of (slot, new) ∷ map run_of p.runs)) (sym (runs_snoc p.runs)) (in_snoc (run_of (slot, new)) (map run_of p.runs));
      marks = λ q. refl;
      reports = subst (SameMembers (filter_map said_in p.jobs)) (sym (said_unchanged job (phase.Running run reading) idle.0 p.jobs idle.1 silent (λ q. refl))) (same_members (filter_map said_in p.jobs));
      slots = λ q. refl;
    },
  ),
)
  where
    run : RunNo
    run = run_no slot (p.started + 1)

    new : SlotRun
    new = record { job = job; number = p.started + 1; judged = judged; until = reading }

    idle : (j : Job) × (job_at job p.jobs ≡ Some j) × (j.phase ≡ phase.Idle)
    idle = idle_there (job_at job p.jobs) ok.idle

    its : Matched (job_at job p.jobs) (slot_at slot p.slots) judged
    its = matched (job_at job p.jobs) (slot_at slot p.slots) reading judged ok.its_match

    silent : IsSilent idle.0.phase
    silent q = ap (report_of q) idle.2

    core : HasCore (view_of p) job (core_of judged.job)
    core = subst (λ o. IsSomeAnd (option_map entry_of o) (λ e. e.core ≡ core_of judged.job)) (sym its.job_there) (ap core_of (sym its.job_ad))

    runs_snoc : (runs : List (SlotId × SlotRun)) → map run_of (runs ++ (slot, new) ∷ []) ≡ map run_of runs ++ run_of (slot, new) ∷ []
    runs_snoc [] = refl
    runs_snoc (x ∷ xs) = ap (λ l. run_of x ∷ l) (runs_snoc xs)

    new_number : (s : Run) → IsIn s (map run_of p.runs) → s.run.number ≢ p.started + 1
    new_number s there e =
        let found = in_runs s p.runs is.runs_once there in
        let within : found.0.number ≤ p.started = subst (λ o. IfSome o (λ r. r.number ≤ p.started)) found.1 (is.run_numbers s.slot) in
        let own : s.run.number ≡ found.0.number = ap (λ (x : Run). x.run.number) found.2 in
        omega (arith, within, own, e)

    free : (s : Run) → IsIn s (map run_of p.runs) → s.slot ≢ slot
    free s there e =
        let found = in_runs s p.runs is.runs_once there in
        let both : Some found.0 ≡ None = sym found.1 ∙ ap (λ q. run_at q p.runs) e ∙ ok.free in
        cc

-- ---- Ended
abbrev record_said : RunNo → JobId → How → EndReport
record_said run job how = record { run = run; job = job; how = how }

-- a job's run, as it is to end
record Ending (p : PoolValue) (job : JobId) (run : RunNo) : Type 0 where
  job_is : Job
  until : ℕ
  job_there : job_at job p.jobs ≡ Some job_is
  running : job_is.phase ≡ phase.Running run until
  run_is : SlotRun
  run_there : run_at run.claim.slot p.runs ≡ Some run_is
  its_job : run_is.job ≡ job
  its_number : run_no run.claim.slot run_is.number ≡ run

ending : (p : PoolValue) (job : JobId) (run : RunNo) → IsConsistent p → run_of_job (job_at job p.jobs) ≡ Some run → Ending p job run
ending p job run is has =
    let r = runs_there (job_at job p.jobs) run has in
    let own = own_run_of p job run is r in
    record { job_is = r.job; until = r.until; job_there = r.there; running = r.running; run_is = own.run_there; run_there = own.at_slot; its_job = own.its_job; its_number = own.its_number }

-- the pool once the run has stopped
abbrev stopped : PoolValue → ℕ → SlotId → SlotRun → End → AbstractPool
stopped p moment slot r end = view_after (record (view_of p) { moment = moment }) (Stop (run_of (slot, r)) (Some (how_of_end end)))

dead_after : (p : PoolValue) (moment : ℕ) (job : JobId) (run : RunNo) (end : End) → IsConsistent p → (e : Ending p job run) → IsDead (stopped p moment run.claim.slot e.run_is end) run
dead_after p moment job run end is e = (
  subst (IsSpentBy (marks_after p.slots p.started)) e.its_number (spent_up_to p.slots p.started run.claim.slot e.run_is.number (is.placed run.claim.slot (ap is_some e.run_there)) within),
  gone,
)
  where
    within : e.run_is.number ≤ p.started
    within = subst (λ o. IfSome o (λ r. r.number ≤ p.started)) e.run_there (is.run_numbers run.claim.slot)

    gone : (s : Run) → IsIn s (filter (λ s. not (same_run s.run (run_of (run.claim.slot, e.run_is)).run)) (map run_of p.runs)) → s.run ≢ run
    gone s there same =
        let stays = passes (λ s. not (same_run s.run (run_of (run.claim.slot, e.run_is)).run)) s (map run_of p.runs) there in
        let own : s.run ≡ (run_of (run.claim.slot, e.run_is)).run = same ∙ sym e.its_number in
        let fails : not (same_run s.run (run_of (run.claim.slot, e.run_is)).run) ≡ false = ap not (ap (same_run s.run) (sym own) ∙ same_run-same s.run) in
        absurd (true≢false (sym stays ∙ fails))

-- what was said is of the run and its job
the_said : (p : PoolValue) (job : JobId) (run : RunNo) (how : How) (e : Ending p job run) → record_said run job how ≡ record_said (run_of (run.claim.slot, e.run_is)).run e.run_is.job how
the_said p job run how e = ap (λ n. record_said n job how) (sym e.its_number) ∙ ap (λ q. record_said (run_of (run.claim.slot, e.run_is)).run q how) (sym e.its_job)

said_after : (run : RunNo) (job : JobId) (end : End) → report_of job (phase_after run end) ≡ Some (record_said run job (how_of_end end))
said_after run job (Exited code) = refl
said_after run job (Signalled signal) = refl
said_after run job NotStarted = refl

-- after both steps it is the next pool
same_after : (p : PoolValue) (reading : ℕ) (job : JobId) (run : RunNo) (end : End) → IsConsistent p → (e : Ending p job run)
    → SameView (with_state (stopped p (max p.latest reading) run.claim.slot e.run_is end) job (λ _. job_state (phase_after run end))) (view_of (record (with_end_of p job end (Some run)) { latest = max p.latest reading }))
same_after p reading job run end is e = record {
  moment = refl;
  next = refl;
  jobs = rephased p job (phase_after run end);
  acked = same_acked job (phase_after run end) p.jobs;
  ordered = same_members [];
  runs = subst (λ l. SameMembers l (map run_of (without_run run.claim.slot p.runs))) (sym (stopped_runs run.claim.slot e.run_is p.runs is.runs_once e.run_there)) (same_members (map run_of (without_run run.claim.slot p.runs)));
  marks = λ q. refl;
  reports = subst (λ x. SameMembers (x ∷ filter_map said_in p.jobs) (filter_map said_in (with_phase job (phase_after run end) p.jobs))) (the_said p job run (how_of_end end) e)
      (said_more job (phase_after run end) e.job_is (record_said run job (how_of_end end)) p.jobs e.job_there (λ q. ap (report_of q) e.running) (said_after run job end));
  slots = λ q. refl;
}

end_takes : (p : PoolValue) (job : JobId) (end : End) (reading : ℕ) (run : RunNo) → IsConsistent p → (e : Ending p job run)
    → Takes (record (view_of p) { moment = max p.latest reading }) (Stop (run_of (run.claim.slot, e.run_is)) (Some (how_of_end end)) ∷ end_step job run end ∷ []) (view_of (record (with_end_of p job end (Some run)) { latest = max p.latest reading }))
end_takes p job (Exited code) reading run is e = (
  run_in_runs run.claim.slot e.run_is p.runs e.run_there,
  (
    ((e.until, stands_in p job e.job_is (Under run e.until) e.job_there (ap job_state e.running)), dead_after p (max p.latest reading) job run (Exited code) is e, inl (the_said p job run (how_of_end (Exited code)) e), tt),
    same_after p reading job run (Exited code) is e,
  ),
)
end_takes p job (Signalled signal) reading run is e = (
  run_in_runs run.claim.slot e.run_is p.runs e.run_there,
  (
    ((e.until, stands_in p job e.job_is (Under run e.until) e.job_there (ap job_state e.running)), dead_after p (max p.latest reading) job run (Signalled signal) is e, inl (the_said p job run (how_of_end (Signalled signal)) e), tt),
    same_after p reading job run (Signalled signal) is e,
  ),
)
end_takes p job NotStarted reading run is e = (
  run_in_runs run.claim.slot e.run_is p.runs e.run_there,
  ((inr refl, over), same_after p reading job run NotStarted is e),
)
  where
    over : IsSomeAnd (option_map entry_of (job_at job p.jobs)) (λ x. IsOver (stopped p (max p.latest reading) run.claim.slot e.run_is NotStarted) x.state)
    over = subst (λ o. IsSomeAnd (option_map entry_of o) (λ x. IsOver (stopped p (max p.latest reading) run.claim.slot e.run_is NotStarted) x.state)) (sym e.job_there)
        (subst (λ ph. IsOver (stopped p (max p.latest reading) run.claim.slot e.run_is NotStarted) (job_state ph)) (sym e.running) (inl (dead_after p (max p.latest reading) job run NotStarted is e)))

-- ---- every event
-- the steps of an accepted event, but for the time
own_takes : (p : PoolValue) (ev : Event) → IsConsistent p → open_refusal p ev ≡ None → Takes (record (view_of p) { moment = max p.latest (reading_of ev) }) (own_steps p ev) (view_of (pool_after p ev))
own_takes p (event.Submit jobs reading) is ok =
    submit_takes jobs (p.last_cluster + 1) 0 p.jobs (record (view_of p) { moment = max p.latest reading }) (view_of (pool_after p (event.Submit jobs reading)))
    (λ id there. inl (omega (arith, is.numbered id there)))
    (λ q. refl)
    (λ q. refl)
    (same_members (map (λ e. e.0) p.jobs))
    (same_members (map (λ e. e.0) (p.jobs ++ numbered_jobs (p.last_cluster + 1) 0 jobs)))
    (record {
      moment = refl;
      next = refl;
      jobs = λ q. refl;
      acked = same_members (map (λ e. e.0) (p.jobs ++ numbered_jobs (p.last_cluster + 1) 0 jobs));
      ordered = same_members [];
      runs = same_members (map run_of p.runs);
      marks = λ q. refl;
      reports = subst (SameMembers (filter_map said_in p.jobs)) (sym (said_by_new (p.last_cluster + 1) 0 jobs)) (same_members (filter_map said_in p.jobs));
      slots = λ q. refl;
    })
  where
    silent : (cluster proc : ℕ) (ads : List Attributes) → filter_map said_in (numbered_jobs cluster proc ads) ≡ []
    silent cluster proc [] = refl
    silent cluster proc (ad ∷ ads) = silent cluster (proc + 1) ads

    said_by_new : (cluster proc : ℕ) (ads : List Attributes) → filter_map said_in (p.jobs ++ numbered_jobs cluster proc ads) ≡ filter_map said_in p.jobs
    said_by_new cluster proc ads = filter_map-append said_in p.jobs (numbered_jobs cluster proc ads) ∙ ap (λ l. filter_map said_in p.jobs ++ l) (silent cluster proc ads) ∙ append-nil (filter_map said_in p.jobs)
own_takes p (event.Start job slot judged reading) is ok = start_takes p job slot judged reading is (startable p job slot judged reading ok)
own_takes p (event.Ended job end reading) is ok =
    let found = some_run (run_of_job (job_at job p.jobs)) job ok in
    let e = ending p job found.0 is found.1 in
    subst (λ o. Takes (record (view_of p) { moment = max p.latest reading }) (end_steps p job end o) (view_of (record (with_end_of p job end o) { latest = max p.latest reading }))) (sym found.1)
    (subst (λ o. Takes (record (view_of p) { moment = max p.latest reading }) (stop_steps found.0.claim.slot end o ++ end_step job found.0 end ∷ []) (view_of (record (with_end_of p job end (Some found.0)) { latest = max p.latest reading }))) (sym e.run_there)
    (end_takes p job end reading found.0 is e))
own_takes p (event.Close reading none) is ok = record {
  moment = refl;
  next = refl;
  jobs = λ q. refl;
  acked = same_members (map (λ e. e.0) p.jobs);
  ordered = same_members [];
  runs = same_members (map run_of p.runs);
  marks = λ q. refl;
  reports = same_members (filter_map said_in p.jobs);
  slots = λ q. refl;
}

pub moves : (p : PoolValue) (ev : Event) → IsConsistent p → refusal p ev ≡ None → Takes (view_of p) (steps_of p ev) (view_of (pool_after p ev))
moves p ev is ok = timed (view_of p) (view_of (pool_after p ev)) (reading_of ev) (own_steps p ev) (own_takes p ev is (opened p ev ok))

-- an opening pool has no job and no run
pub opening_safe : (slots : List PoolSlot) → Safe (view_of (opening_pool slots))
opening_safe slots = record {
  matched = λ r there. absurd there;
  one_run_per_slot = λ r s there. absurd there;
  one_lease_per_job = λ r s there. absurd there;
  acknowledged_kept = λ q there. absurd there;
  endings_said = λ q. tt;
}

each_moves : (p : PoolValue) (ss : List Step) (q : PoolValue) → IsConsistent p → Safe (view_of p) → RunsLeased (view_of p) → LeadsTo p ss q → EachMoves p ss
each_moves p [] q is safe leased leads = safe
each_moves p (s ∷ ss) q is safe leased leads =
    let takes = moves p s.event is leads.0.accepted in
    let next = takes_safe (view_of p) (steps_of p s.event) (view_of (pool_after p s.event)) takes safe leased in
    (safe, takes, each_moves (pool_after p s.event) ss q (after_consistent p s.event is leads.0.accepted) next.0 next.1 leads.1)

pub history_moves : (slots : List PoolSlot) (list : List Step) (p : PoolValue) → LeadsTo (opening_pool slots) list p → EachMoves (opening_pool slots) list
history_moves slots list p leads = each_moves (opening_pool slots) list p (opening_consistent slots) (opening_safe slots) (λ r there. absurd there) leads
