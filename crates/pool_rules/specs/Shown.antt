-- The abstract pool that the parts of a pool show.
use Rattle.std.specs.Prelude.{◌≡◌, ◌⊎◌, IsSome}
use Rattle.claim_id.specs.declared.numbers.JobId.{JobId}
use Rattle.pool_mail.specs.declared.mail.Mail.{Mail}
use Rattle.pool_view.specs.SlotPart.{ShowsParts}
use Rattle.pool_view.specs.AbstractPool.{AbstractPool, IsIn, SameMembers}
use Rattle.pool_view.specs.declared.job.Outcome.TheVariants.{EndedBy, Removed}
use Rattle.pool_view.specs.declared.job.State.{State}
use Rattle.pool_view.specs.declared.job.State.TheVariants.{Idle, Held, Under, Left, Done}
use Rattle.queue_tx.specs.declared.key.Key.TheVariants.{Proc}
use Rattle.queue_tx.specs.Queues.{ad_at}
use Rattle.schedd_core.specs.JobStates.{ShowsJobs}
use Rattle.schedd_core.specs.ScheddParts.{IsThere}
use Rattle.pool_rules.specs.Linked.{IsFinishedAs}
use Rattle.pool_rules.specs.PoolParts.{PoolParts, pool_parts}

-- The jobs are those of the queue, as it shows them, and those that have left it; the runs, the
-- marks and the ads are those of the slots.
pub record ShowsPool (a : PoolParts) (v : AbstractPool) : Type 0 where
  pub moment : v.moment ≡ a.moment
  pub next : v.next ≡ a.schedd.next_run
  pub jobs : ShowsJobs a.queue a.schedd.left v.jobs
  pub finished : (job : JobId)
      → IsFinishedAs (ad_at (Proc job) a.queue) (a.finished job) (v.jobs job)
  pub acked : SameMembers v.acked a.acked
  pub ordered : SameMembers v.ordered a.ordered
  pub reports : SameMembers v.reports a.reports
  pub slots : ShowsParts v (pool_parts a.startds)

-- a job is in the queue, or has left it
abbrev pub IsKnown : PoolParts → JobId → Type 0
IsKnown a job = IsThere a.queue job ⊎ IsSome (a.finished job)

-- a job left the queue by the end of a run that a startd reported, or by an order
abbrev pub LeftRightly : PoolParts → JobId → State → Type 0
LeftRightly a job (Done (EndedBy run how)) =
    IsIn (record { run = run; job = job; how = how }) a.reports
LeftRightly a job (Done Removed) = IsIn job a.ordered
LeftRightly a job Idle = ⊥
LeftRightly a job Held = ⊥
LeftRightly a job (Under run end) = ⊥
LeftRightly a job Left = ⊥

-- the same parts, but for the order of mails, and of jobs and reports in their sets
pub record SameParts (a b : PoolParts) : Type 0 where
  pub moment : b.moment ≡ a.moment
  pub startds : b.startds ≡ a.startds
  pub schedd : b.schedd ≡ a.schedd
  pub queue : b.queue ≡ a.queue
  pub mails : (m : Mail) → IsIn m b.mails → IsIn m a.mails
  pub awaited : b.awaited ≡ a.awaited
  pub finished : (job : JobId) → b.finished job ≡ a.finished job
  pub acked : SameMembers a.acked b.acked
  pub ordered : SameMembers a.ordered b.ordered
  pub reports : SameMembers a.reports b.reports
