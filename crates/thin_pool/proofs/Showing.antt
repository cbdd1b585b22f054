-- A pool shows what its history says.
use Rattle.std.proofs.Common.{◌≡◌, ℕ, ◌+◌, List, [], ◌∷◌, ◌++◌, length, map, Option, Some, None, false, max, refl, sym, ◌∙◌, ap, subst, arith, append_assoc, length-append}
use Rattle.std.specs.Prelude.{fold}
use Rattle.std.proofs.lemmas.List.{append-nil, map-append}
use Rattle.std.specs.List.{flat_map, cons_option}
use Rattle.ad_tree.specs.Ad.{Attributes}
use Rattle.pool_outer.specs.declared.spawner.Launch.{Launch}
use Rattle.claim_id.specs.declared.numbers.RunNo.{RunNo}
use Rattle.claim_id.specs.declared.numbers.JobId.{JobId}
use Rattle.pool_mail.specs.declared.end.End.{End}
use Rattle.thin_pool.specs.declared.event.Event.{Event}
use Rattle.thin_pool.specs.declared.event.Event.TheVariants.{Submit, Start, Ended, Close}
use Rattle.thin_pool.specs.declared.history.Step.{Step}
use Rattle.thin_pool.specs.declared.job.Job.{Job}
use Rattle.thin_pool.specs.declared.slot.PoolSlot.{PoolSlot}
use Rattle.thin_pool.specs.Answers.{kept_of}
use Rattle.thin_pool.specs.Histories.{LeadsTo, Shows, submission_in, launch_in, ending_in, readings_in, submissions_in, launches_in, endings_in, is_close, ends_in_close}
use Rattle.thin_pool.specs.PoolValue.{PoolValue, job_at, IsConsistent}
use Rattle.thin_pool.specs.Reactions.{opening_pool, refusal, open_refusal, run_of_job, answer_to, numbered_jobs, phase_after, with_end_of, pool_after}
use Rattle.thin_pool.proofs.Consistent.{opened, open_before, runs_there, own_run_of, some_run, after_consistent, opening_consistent}
use Rattle.thin_pool.proofs.Tables.{map-with_phase, length-without}

abbrev ads_of : List (JobId × Job) → List Attributes
ads_of jobs = map (λ e. e.1.ad) jobs

-- what one more event submits, launches and ends
abbrev one_submit : Event → List (List Attributes × ℕ)
one_submit e = cons_option (submission_in e) []

abbrev one_launch : PoolValue → Event → List Launch
one_launch p e = cons_option (launch_in (kept_of (answer_to p e))) []

abbrev one_end : Event → List End
one_end e = cons_option (ending_in e) []

-- an accepted event adds what it says to what the pool shows
record Adds (p : PoolValue) (e : Event) (q : PoolValue) : Type 0 where
  submitted : ads_of q.jobs ≡ ads_of p.jobs ++ flat_map (λ s. s.0) (one_submit e)
  launched : q.started ≡ p.started + length (one_launch p e)
  ended : length q.runs + length (one_end e) + p.started ≡ length p.runs + q.started

ads_numbered : (cluster proc : ℕ) (ads : List Attributes) → ads_of (numbered_jobs cluster proc ads) ≡ ads
ads_numbered cluster proc [] = refl
ads_numbered cluster proc (ad ∷ ads) = ap (λ l. ad ∷ l) (ads_numbered cluster (proc + 1) ads)

ended_adds : (p : PoolValue) (job : JobId) (end : End) (reading : ℕ) (run : RunNo) → IsConsistent p → run_of_job (job_at job p.jobs) ≡ Some run → Adds p (Ended job end reading) (with_end_of p job end (Some run))
ended_adds p job end reading run is has =
    let own = own_run_of p job run is (runs_there (job_at job p.jobs) run has) in
    record {
      submitted = map-with_phase (λ e. e.1.ad) job (phase_after run end) p.jobs (λ e. refl) ∙ sym (append-nil (ads_of p.jobs));
      launched = omega arith;
      ended = omega (arith, length-without run.claim.slot own.run_there p.runs own.at_slot);
    }

adds : (p : PoolValue) (e : Event) → IsConsistent p → open_refusal p e ≡ None → Adds p e (pool_after p e)
adds p (Submit jobs reading) is ok = record {
  submitted = map-append (λ e. e.1.ad) p.jobs (numbered_jobs (p.last_cluster + 1) 0 jobs) ∙ ap (λ l. ads_of p.jobs ++ l) (ads_numbered (p.last_cluster + 1) 0 jobs ∙ sym (append-nil jobs));
  launched = omega arith;
  ended = omega arith;
}
adds p (Start job slot judged reading) is ok = record {
  submitted = map-with_phase (λ e. e.1.ad) job _ p.jobs (λ e. refl) ∙ sym (append-nil (ads_of p.jobs));
  launched = omega arith;
  ended = omega (arith, length-append p.runs ((slot, record { job = job; number = p.started + 1; judged = judged; until = reading }) ∷ []));
}
adds p (Ended job end reading) is ok =
    let found = some_run (run_of_job (job_at job p.jobs)) job ok in
    let a = ended_adds p job end reading found.0 is found.1 in
    let b = subst (λ o. Adds p (Ended job end reading) (with_end_of p job end o)) (sym found.1) a in
    record { submitted = b.submitted; launched = b.launched; ended = b.ended }
adds p (Close reading none) is ok = record {
  submitted = sym (append-nil (ads_of p.jobs));
  launched = omega arith;
  ended = omega arith;
}

-- what q shows is what p shows and then what the history between them says
record Goes (p : PoolValue) (list : List Step) (q : PoolValue) : Type 0 where
  slots : q.slots ≡ p.slots
  latest : q.latest ≡ fold max p.latest (readings_in list)
  submitted : ads_of q.jobs ≡ ads_of p.jobs ++ flat_map (λ s. s.0) (submissions_in list)
  launched : q.started ≡ p.started + length (launches_in list)
  ended : length q.runs + length (endings_in list) + p.started ≡ length p.runs + q.started

flat_cons : (o : Option (List Attributes × ℕ)) (l : List (List Attributes × ℕ)) → flat_map (λ s. s.0) (cons_option o l) ≡ flat_map (λ s. s.0) (cons_option o []) ++ flat_map (λ s. s.0) l
flat_cons None l = refl
flat_cons (Some s) l = ap (λ x. x ++ flat_map (λ s. s.0) l) (sym (append-nil s.0))

length_cons : {A : Type 0} (o : Option A) (l : List A) → length (cons_option o l) ≡ length (cons_option o []) + length l
length_cons None l = omega arith
length_cons (Some x) l = omega arith

-- no event changes the slots
pub slots_kept : (p : PoolValue) (e : Event) → (pool_after p e).slots ≡ p.slots
slots_kept p (Submit jobs reading) = refl
slots_kept p (Start job slot judged reading) = refl
slots_kept p (Ended job end reading) = by (run_of_job (job_at job p.jobs))
  where
    by : (o : Option RunNo) → (with_end_of p job end o).slots ≡ p.slots
    by None = refl
    by (Some run) = refl
slots_kept p (Close reading none) = refl

goes : (p : PoolValue) (list : List Step) (q : PoolValue) → IsConsistent p → LeadsTo p list q → Goes p list q
goes p [] q is leads = record {
  slots = ap (λ w. w.slots) leads;
  latest = ap (λ w. w.latest) leads;
  submitted = ap (λ w. ads_of w.jobs) leads ∙ sym (append-nil (ads_of p.jobs));
  launched = omega (arith, ap (λ w. w.started) leads);
  ended = omega (arith, ap (λ w. w.started) leads, ap (λ w. length w.runs) leads);
}
goes p (s ∷ ss) q is leads =
    let e = s.event in
    let rest = goes (pool_after p e) ss q (after_consistent p e is leads.0.accepted) leads.1 in
    let step = adds p e is (opened p e leads.0.accepted) in
    let kept : launch_in s.kept ≡ launch_in (kept_of (answer_to p e)) = ap launch_in leads.0.answer in
    let launched : length (launches_in (s ∷ ss)) ≡ length (one_launch p e) + length (launches_in ss) = ap (λ o. length (cons_option o (launches_in ss))) kept ∙ length_cons (launch_in (kept_of (answer_to p e))) (launches_in ss) in
    let ended : length (endings_in (s ∷ ss)) ≡ length (one_end e) + length (endings_in ss) = length_cons (ending_in e) (endings_in ss) in
    record {
      slots = rest.slots ∙ slots_kept p e;
      latest = rest.latest;
      submitted =
          rest.submitted ∙ ap (λ l. l ++ flat_map (λ x. x.0) (submissions_in ss)) step.submitted
          ∙ append_assoc (ads_of p.jobs) (flat_map (λ x. x.0) (one_submit e)) (flat_map (λ x. x.0) (submissions_in ss))
          ∙ ap (λ l. ads_of p.jobs ++ l) (sym (flat_cons (submission_in e) (submissions_in ss)));
      launched = omega (arith, rest.launched, step.launched, launched);
      ended = omega (arith, rest.ended, step.ended, ended);
    }

-- an open pool is closed by a close alone
closed_on : (p : PoolValue) (e : Event) → refusal p e ≡ None → (pool_after p e).closed ≡ is_close e
closed_on p e ok = by_event e (open_before p e ok)
  where
    by : (job : JobId) (end : End) (o : Option RunNo) → (with_end_of p job end o).closed ≡ p.closed
    by job end None = refl
    by job end (Some run) = refl

    by_event : (e : Event) → p.closed ≡ false → (pool_after p e).closed ≡ is_close e
    by_event (Submit jobs reading) open_yet = open_yet
    by_event (Start job slot judged reading) open_yet = open_yet
    by_event (Ended job end reading) open_yet = by job end (run_of_job (job_at job p.jobs)) ∙ open_yet
    by_event (Close reading none) open_yet = refl

closes : (p : PoolValue) (list : List Step) (q : PoolValue) → p.closed ≡ false → LeadsTo p list q → q.closed ≡ ends_in_close list
closes p [] q open_yet leads = ap (λ w. w.closed) leads ∙ open_yet
closes p (s ∷ []) q open_yet leads = ap (λ w. w.closed) leads.1 ∙ closed_on p s.event leads.0.accepted
closes p (s ∷ t ∷ ss) q open_yet leads = closes (pool_after p s.event) (t ∷ ss) q (open_before (pool_after p s.event) t.event leads.1.0.accepted) leads.1

pub shows : (slots : List PoolSlot) (list : List Step) (p : PoolValue) → LeadsTo (opening_pool slots) list p → Shows slots list p
shows slots list p leads =
    let all = goes (opening_pool slots) list p (opening_consistent slots) leads in
    record {
      slots_are = all.slots;
      latest = all.latest;
      submitted = all.submitted;
      launched = omega (arith, all.launched);
      ended = omega (arith, all.ended);
      closed = closes (opening_pool slots) list p refl leads;
    }
