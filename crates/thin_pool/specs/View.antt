-- The abstract pool that a pool stands for.
use Rattle.std.specs.Prelude.{ℕ, suc, List, [], map, Option, Some, None, option_map}
use Rattle.std.specs.List.{filter_map}
use Rattle.claim_id.specs.declared.numbers.JobId.{JobId}
use Rattle.claim_id.specs.declared.numbers.SlotId.{SlotId}
use Rattle.pool_mail.specs.declared.end.End.{End}
use Rattle.pool_mail.specs.declared.end.End.TheVariants as «end»
use Rattle.pool_mail.specs.declared.end.How.{How}
use Rattle.pool_mail.specs.declared.end.How.TheVariants.{Exited, Signalled, NotStarted}
use Rattle.pool_view.specs.declared.job.Outcome.TheVariants.{EndedBy}
use Rattle.pool_view.specs.declared.job.State.{State}
use Rattle.pool_view.specs.declared.job.State.TheVariants.{Idle, Held, Under, Done}
use Rattle.pool_view.specs.declared.job.Entry.{Entry}
use Rattle.pool_view.specs.declared.run.Run.{Run}
use Rattle.pool_view.specs.declared.run.EndReport.{EndReport}
use Rattle.pool_view.specs.declared.mark.SlotMark.{SlotMark}
use Rattle.pool_view.specs.Ads.{core_of}
use Rattle.pool_view.specs.AbstractPool.{Marks, AbstractPool}
use Rattle.thin_pool.specs.declared.job.Job.{Job}
use Rattle.thin_pool.specs.declared.job.Phase.{Phase}
use Rattle.thin_pool.specs.declared.job.Phase.TheVariants as phase
use Rattle.thin_pool.specs.declared.job.SlotRun.{SlotRun}
use Rattle.thin_pool.specs.declared.slot.PoolSlot.{PoolSlot}
use Rattle.thin_pool.specs.PoolValue.{PoolValue, claim_of, job_at, run_no, slot_at}

abbrev pub how_of_end : End → How
how_of_end («end».Exited code) = Exited code
how_of_end («end».Signalled signal) = Signalled signal
how_of_end «end».NotStarted = NotStarted

abbrev pub job_state : Phase → State
job_state phase.Idle = Idle
job_state (phase.Running run until) = Under run until
job_state (phase.Held run) = Held
job_state (phase.Finished run end) = Done (EndedBy run (how_of_end end))

abbrev pub entry_of : Job → Entry
entry_of j = record { core = core_of j.ad; state = job_state j.phase }

abbrev pub run_of : SlotId × SlotRun → Run
run_of e = record {
  slot = e.0;
  run = run_no e.0 e.1.number;
  job = e.1.job;
  until = e.1.until;
  judged = e.1.judged;
}

-- the report of a job's run
abbrev pub report_of : JobId → Phase → Option EndReport
report_of job phase.Idle = None
report_of job (phase.Running run until) = None
report_of job (phase.Held run) = Some (record { run = run; job = job; how = NotStarted })
report_of job (phase.Finished run end) =
    Some (record { run = run; job = job; how = how_of_end end })

-- a slot's mark after so many runs of the pool: none of their numbers is used again
abbrev pub mark_after : ℕ → SlotId → SlotMark
mark_after last slot =
    record { boot = 0; ended = 0; held = Some (record { claim = claim_of slot; last = last }) }

abbrev pub marks_after : List PoolSlot → ℕ → Marks
marks_after slots last slot = option_map (λ _. mark_after last slot) (slot_at slot slots)

abbrev pub view_of : PoolValue → AbstractPool
view_of p = record {
  moment = p.latest;
  next = suc p.started;
  jobs = λ job. option_map entry_of (job_at job p.jobs);
  acked = map (λ e. e.0) p.jobs;
  ordered = [];
  runs = map run_of p.runs;
  marks = marks_after p.slots p.started;
  reports = filter_map (λ e. report_of e.0 e.1.phase) p.jobs;
  slots = λ slot. option_map (λ s. s.ad) (slot_at slot p.slots);
}
