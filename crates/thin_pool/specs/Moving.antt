-- The abstract steps of each event, and what is promised of every history.
use Rattle.std.specs.Prelude.{ℕ, ◌+◌, List, [], ◌∷◌, ◌++◌, nat_lt, Option, Some, None, if◌then◌else◌}
use Rattle.ad_eval.specs.Judgement.{Judgement}
use Rattle.claim_id.specs.declared.numbers.RunNo.{RunNo}
use Rattle.claim_id.specs.declared.numbers.JobId.{JobId}
use Rattle.claim_id.specs.declared.numbers.SlotId.{SlotId}
use Rattle.pool_mail.specs.declared.end.End.{End}
use Rattle.pool_mail.specs.declared.end.End.TheVariants.{Exited, Signalled, NotStarted}
use Rattle.pool_view.specs.declared.job.State.TheVariants.{Held}
use Rattle.pool_view.specs.declared.job.Outcome.TheVariants.{EndedBy}
use Rattle.pool_view.specs.Ads.{core_of}
use Rattle.pool_view.specs.AbstractStep.{AbstractStep, Time, Queue, Acknowledge, Grant, Start, Stop, Free, Finish, Takes}
use Rattle.pool_view.specs.Safe.{Safe}
use Rattle.thin_pool.specs.declared.event.Event.{Event}
use Rattle.thin_pool.specs.declared.event.Event.TheVariants as event
use Rattle.thin_pool.specs.declared.history.Step.{Step}
use Rattle.thin_pool.specs.declared.job.Job.{Job}
use Rattle.thin_pool.specs.declared.job.SlotRun.{SlotRun}
use Rattle.thin_pool.specs.Events.{reading_of}
use Rattle.thin_pool.specs.PoolValue.{PoolValue, job_at, run_at, run_no}
use Rattle.thin_pool.specs.Reactions.{next_cluster, numbered_jobs, run_of_job, pool_after}
use Rattle.thin_pool.specs.View.{how_of_end, run_of, marks_after, view_of}

-- the moment passes, where the reading is later
abbrev pub time_to : ℕ → ℕ → List AbstractStep
time_to moment reading = if nat_lt moment reading then Time reading ∷ [] else []

abbrev pub submit_steps : List (JobId × Job) → List AbstractStep
submit_steps [] = []
submit_steps (e ∷ es) = Queue e.0 (core_of e.1.ad) ∷ Acknowledge e.0 ∷ submit_steps es

abbrev pub start_steps : PoolValue → JobId → SlotId → Judgement → ℕ → List AbstractStep
start_steps p job slot judged reading =
    Grant job (run_no slot (p.started + 1)) reading
    ∷ Start (run_of (
      slot,
      record {
        job = job;
        number = p.started + 1;
        judged = judged;
        until = reading;
      },
    )) (marks_after p.slots (p.started + 1))
    ∷ []

-- what becomes of the job whose run has ended
abbrev pub end_step : JobId → RunNo → End → AbstractStep
end_step job run (Exited code) = Finish job (EndedBy run (how_of_end (Exited code)))
end_step job run (Signalled signal) = Finish job (EndedBy run (how_of_end (Signalled signal)))
end_step job run NotStarted = Free job Held

abbrev pub stop_steps : SlotId → End → Option SlotRun → List AbstractStep
stop_steps slot end None = []
stop_steps slot end (Some r) = Stop (run_of (slot, r)) (Some (how_of_end end)) ∷ []

abbrev pub end_steps : PoolValue → JobId → End → Option RunNo → List AbstractStep
end_steps p job end None = []
end_steps p job end (Some run) = stop_steps run.claim.slot end (run_at run.claim.slot p.runs)
    ++ end_step job run end ∷ []

-- the steps of an event, but for the time
abbrev pub own_steps : PoolValue → Event → List AbstractStep
own_steps p (event.Submit jobs reading) = submit_steps (numbered_jobs (next_cluster p) 0 jobs)
own_steps p (event.Start job slot judged reading) = start_steps p job slot judged reading
own_steps p (event.Ended job end reading) = end_steps p job end (run_of_job (job_at job p.jobs))
own_steps p (event.Close reading none) = []

-- the steps that an accepted event makes
abbrev pub steps_of : PoolValue → Event → List AbstractStep
steps_of p ev = time_to p.latest (reading_of ev) ++ own_steps p ev

-- Every pool of a history is safe, and each event moves the one before it to the next by its steps.
abbrev pub EachMoves : PoolValue → List Step → Type 0
EachMoves p [] = Safe (view_of p)
EachMoves p (s ∷ ss) = Safe (view_of p)
    × Takes (view_of p) (steps_of p s.event) (view_of (pool_after p s.event))
    × EachMoves (pool_after p s.event) ss
