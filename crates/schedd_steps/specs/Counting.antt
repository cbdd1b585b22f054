-- What becomes of a pool whose unfinished transaction is in the log, by what was counted for it.
use Rattle.std.specs.Prelude.{ℕ, ◌+◌, ◌-◌, ◌++◌, ◌<◌, None}
use Rattle.pool_parts.specs.Sizes.{mails_count, queue_count}
use Rattle.pool_parts.specs.declared.size.TheConstants.{MAX_BYTES}
use Rattle.pool_rules.specs.Deeds.{posts}
use Rattle.pool_rules.specs.Logging.{cluster_jobs, with_leaver}
use Rattle.pool_state.specs.declared.state.PoolState.{PoolState}
use Rattle.queue_tx.specs.declared.key.Key.TheVariants.{Proc}
use Rattle.queue_tx.specs.Queues.{KeyedAds}
use Rattle.schedd_state.specs.DueChecks.{with_new}
use Rattle.schedd_core.specs.Logging.{after_logged, IsReopened}
use Rattle.schedd_state.specs.Schedds.{After, ScheddValue}
use Rattle.schedd_steps.specs.declared.logging.CountDeed.{CountDeed}

-- the bytes of ads with that queue
abbrev pub bytes_after : KeyedAds → PoolState → ℕ
bytes_after q s = s.counts.bytes + queue_count q - queue_count s.queue

-- with that queue and so many bytes, and what else was counted
abbrev pub with_counts : CountDeed → ℕ → KeyedAds → PoolState → PoolState
with_counts d bytes q s = record s {
  queue = q;
  pending = None;
  next_tx = d.next_tx;
  finished = with_leaver d.leaver s.finished;
  counts = record { jobs = d.jobs; bytes = bytes };
}

-- what the schedd makes of it that its plan is logged
abbrev pub logged_by : KeyedAds → PoolState → After
logged_by q s = after_logged s.schedd q s.schedd.waiting

-- the bytes of ads where a plan is logged
abbrev pub bytes_planned : KeyedAds → PoolState → ℕ
bytes_planned q s = bytes_after q s + mails_count (logged_by q s).step.mails

-- a submission is logged
abbrev pub submitted : CountDeed → ℕ → ℕ → KeyedAds → PoolState → PoolState
submitted d cluster count q s = record (with_counts d (bytes_after q s) q s) {
  schedd = with_new (Proc (record { cluster = cluster; proc = 0 })) s.schedd;
  acked = s.acked ++ cluster_jobs cluster count;
}

-- a plan is logged
abbrev pub planned : CountDeed → KeyedAds → PoolState → PoolState
planned d q s = record (with_counts d (bytes_planned q s) q s) {
  schedd = (logged_by q s).schedd;
  mails = posts (logged_by q s).step.mails s.mails;
}

-- a schedd comes back, and the bytes of ads are too many
pub record IsBackTooLarge (v : ScheddValue) (q : KeyedAds) (reading bytes : ℕ) : Type 0 where
  pub back : ScheddValue
  pub is : IsReopened v q reading back
  pub above : MAX_BYTES < bytes
