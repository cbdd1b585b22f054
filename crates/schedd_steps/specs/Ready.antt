-- What is ready to be done, with all its memory.
use Rattle.std.specs.Prelude.{◌≡◌, ◌+◌, Bool, ℕ, List, Ok, Option}
use Rattle.claim_id.specs.declared.numbers.ClaimId.{ClaimId}
use Rattle.pool_mail.specs.declared.mail.Mail.{Mail}
use Rattle.pool_parts.specs.declared.pending.Pending.{Pending}
use Rattle.pool_state.specs.declared.state.PoolState.{PoolState}
use Rattle.pool_parts.specs.Growth.{Grows}
use Rattle.queue_tx.specs.Queues.{queue_after, with_changes}
use Rattle.schedd_state.specs.Reopening.{IsReader}
use Rattle.schedd_core.specs.Rows.{after_mail}
use Rattle.schedd_state.specs.PreparedSchedds.{schedd_after}
use Rattle.schedd_steps.specs.declared.logging.LogDeed.{LogDeed}
use Rattle.schedd_steps.specs.declared.schedd.ScheddDeed.{ScheddDeed}
use Rattle.pool_rules.specs.Deeds.{ordered_by}
use Rattle.pool_rules.specs.Logging.{jobs_after, leaver_of}

-- it makes of the schedd what a mail does
pub record IsReceiptDeed (s : PoolState) (m : Mail) (known : Bool) (reading : ℕ)
    (d : ScheddDeed) : Type 0 where
  pub schedd : schedd_after d.prepared s.schedd ≡ (after_mail s.schedd s.queue m reading).schedd
  pub step : d.prepared.step ≡ (after_mail s.schedd s.queue m reading).step
  pub ordered : d.ordered ≡ ordered_by m known

-- it does the unfinished transaction, and can undo it
pub record IsLogDeed (s : PoolState) (d : LogDeed) (p : Pending) : Type 0 where
  pub what : d.what ≡ p.what
  pub done : queue_after s.queue p.tx ≡ Ok (with_changes s.queue d.queue.change)
  pub undone : with_changes (with_changes s.queue d.queue.change) d.queue.undo ≡ s.queue
  pub growth : Grows d.queue.growth s.queue (with_changes s.queue d.queue.change)
  pub next_tx : d.counts.next_tx ≡ s.next_tx + 1
  pub jobs : d.counts.jobs ≡ jobs_after p.what s.counts.jobs
  pub leaver : (read : List ℕ → Option ClaimId) → IsReader read
      → d.counts.leaver ≡ leaver_of read s.queue p.what
