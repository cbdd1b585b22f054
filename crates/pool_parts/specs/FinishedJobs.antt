-- The jobs that have left the queue.
use Rattle.std.specs.Prelude.{Bool, List, is_some}
use Rattle.std.specs.Map.{lookup}
use Rattle.claim_id.specs.declared.numbers.JobId.{JobId}
use Rattle.pool_parts.specs.declared.finished.FinishedJob.{FinishedJob}
use Rattle.queue_tx.specs.declared.key.Key.{Key}
use Rattle.queue_tx.specs.declared.key.Key.TheVariants.{Proc}
use Rattle.queue_tx.specs.Keys.{same_key}

abbrev pub is_finished : JobId → List (Key × FinishedJob) → Bool
is_finished job finished = is_some (lookup (same_key (Proc job)) finished)
