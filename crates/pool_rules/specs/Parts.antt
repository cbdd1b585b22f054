-- The parts of a pool, as far as its safety rests on them.
use Rattle.std.specs.Prelude.{List, map, Option, Some, None}
use Rattle.std.specs.Map.{lookup}
use Rattle.claim_id.specs.declared.numbers.JobId.{JobId}
use Rattle.pool_rules.specs.PoolParts.{Awaited, NewJobs, Planned, PoolParts}
use Rattle.pool_mail.specs.declared.mail.Mail.{Mail}
use Rattle.pool_parts.specs.declared.finished.FinishedJob.{FinishedJob}
use Rattle.pool_parts.specs.declared.pending.Pending.{Pending}
use Rattle.pool_parts.specs.declared.pending.Unfinished.{Unfinished}
use Rattle.pool_parts.specs.declared.pending.Unfinished.TheVariants.{Submission, Plan}
use Rattle.pool_state.specs.declared.state.PoolState.{PoolState}
use Rattle.pool_tables.specs.declared.sent.Sent.{Sent}
use Rattle.pool_view.specs.Ads.{core_of}
use Rattle.pool_view.specs.declared.job.Entry.{Entry}
use Rattle.pool_view.specs.declared.job.State.TheVariants.{Done}
use Rattle.queue_tx.specs.declared.key.Key.{Key}
use Rattle.queue_tx.specs.declared.key.Key.TheVariants.{Proc}
use Rattle.queue_tx.specs.Keys.{same_key}
use Rattle.queue_tx.specs.Operations.{Operation}
use Rattle.pool_rules.specs.Logging.{cluster_jobs}

abbrev pub mail_of : Sent → Mail
mail_of sent = sent.mail

-- a job that has left the queue
abbrev pub entry_done : FinishedJob → Entry
entry_done f = record { core = core_of f.ad; state = Done f.outcome }

abbrev pub entry_done_by : Option FinishedJob → Option Entry
entry_done_by None = None
entry_done_by (Some f) = Some (entry_done f)

abbrev pub finished_in : List (Key × FinishedJob) → JobId → Option Entry
finished_in finished job = entry_done_by (lookup (same_key (Proc job)) finished)

-- what an unfinished transaction is to do
abbrev pub awaited_by : List Operation → Unfinished → Awaited
awaited_by tx (Submission cluster count) = NewJobs (cluster_jobs cluster count) tx
awaited_by tx (Plan p) = Planned p

abbrev pub awaited_of : Option Pending → Option Awaited
awaited_of None = None
awaited_of (Some p) = Some (awaited_by p.tx p.what)

abbrev pub parts_of : PoolState → PoolParts
parts_of s = record {
  moment = s.latest;
  startds = s.machines;
  schedd = s.schedd;
  queue = s.queue;
  mails = map mail_of s.mails.sent;
  awaited = awaited_of s.pending;
  finished = finished_in s.finished;
  acked = s.acked;
  ordered = s.ordered;
  reports = s.reports;
}
