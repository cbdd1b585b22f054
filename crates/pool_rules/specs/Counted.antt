-- What a pool counts of its jobs, and of the bytes of its ads.
use Rattle.std.specs.Prelude.{◌≡◌, ℕ, ◌+◌, ◌≤◌, List, [], ◌∷◌, Option, Some, None}
use Rattle.pool_parts.specs.declared.event.Event.{Event}
use Rattle.pool_parts.specs.Sizes.{event_count, mail_count, queue_count}
use Rattle.pool_rules.specs.Logging.{jobs_after}
use Rattle.pool_parts.specs.declared.pending.Pending.{Pending}
use Rattle.pool_state.specs.Openings.{IsJobCount}
use Rattle.pool_state.specs.declared.state.PoolState.{PoolState}
use Rattle.pool_state.specs.declared.opening.TheConstants.{MAX_JOBS}
use Rattle.pool_tables.specs.declared.sent.Sent.{Sent}
use Rattle.pool_rules.specs.Histories.{Step}

-- the bytes of mails that were sent
abbrev pub sent_count : List Sent → ℕ
sent_count [] = 0
sent_count (s ∷ sent) = mail_count s.mail + sent_count sent

-- those of the ads of the queue, and of all mails ever sent
abbrev pub held_count : PoolState → ℕ
held_count s = queue_count s.queue + sent_count s.mails.sent

-- The jobs that are counted are those of the queue, and its ads and those of all mails are counted.
pub record IsCounted (s : PoolState) : Type 0 where
  pub jobs : IsJobCount s.queue s.counts.jobs
  pub bytes : held_count s ≤ s.counts.bytes

-- What an event counts: the bytes that it brings, and those that the queue and all mails have more
-- by it; less those that the queue has less.
abbrev pub CountsBytes : Event → PoolState → PoolState → Type 0
CountsBytes e s new =
    new.counts.bytes + held_count s ≡ s.counts.bytes + event_count e + held_count new

-- the bytes that events have brought
abbrev pub brought_count : List Step → ℕ
brought_count [] = 0
brought_count (h ∷ hs) = event_count h.event + brought_count hs

-- ---- how many jobs a pool may have
-- how many its queue has once what is unfinished is logged
abbrev pub jobs_then : Option Pending → ℕ → ℕ
jobs_then None jobs = jobs
jobs_then (Some p) jobs = jobs_after p.what jobs

-- no more than it may, as it is and once that is logged
abbrev pub HasFewJobs : PoolState → Type 0
HasFewJobs s = (s.counts.jobs ≤ MAX_JOBS) × (jobs_then s.pending s.counts.jobs ≤ MAX_JOBS)
