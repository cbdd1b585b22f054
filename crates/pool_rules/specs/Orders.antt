-- The events by which a job's removal is ordered.
use Rattle.std.specs.Prelude.{◌≡◌, true, slice_get, IsSomeAnd}
use Rattle.ad_value.specs.declared.names.job.TheConstants.{PERIODIC_REMOVE}
use Rattle.claim_id.specs.declared.numbers.JobId.{JobId}
use Rattle.pool_parts.specs.declared.event.Event.{Event}
use Rattle.pool_parts.specs.declared.event.Event.TheVariants as event
use Rattle.pool_mail.specs.declared.mail.Mail.TheVariants as mail
use Rattle.pool_outer.specs.declared.gate.Daemon.TheVariants.{Schedd}
use Rattle.pool_state.specs.declared.state.PoolState.{PoolState}
use Rattle.queue_tx.specs.declared.key.Key.TheVariants.{Proc}
use Rattle.queue_tx.specs.Queues.{ad_at}
use Rattle.schedd_plan.specs.EndTable.{is_asked_by}

-- The schedd receives a Remove of the job, or looks at the job while its PeriodicRemove holds.
abbrev pub OrdersRemoval : Event → PoolState → JobId → Type 0
OrdersRemoval (event.Receive Schedd boot index reading judged mismatch) s job =
    IsSomeAnd (slice_get s.mails.sent index) (λ sent. sent.mail ≡ mail.Remove job)
OrdersRemoval (event.Check boot checked reading) s job = (checked ≡ job)
    × IsSomeAnd (ad_at (Proc job) s.queue)
    (λ ad. is_asked_by ad reading PERIODIC_REMOVE.now ≡ true)
OrdersRemoval _ s job = ⊥
