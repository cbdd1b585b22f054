-- The jobs of a pool, and what claims have to do with them.
use Rattle.std.specs.Prelude.{Bool, ◌&&◌, Option, Some, None, is_some}
use Rattle.ad_tree.specs.Ad.{Attributes}
use Rattle.claim_id.specs.declared.numbers.JobId.{JobId}
use Rattle.pool_parts.specs.FinishedJobs.{is_finished}
use Rattle.pool_outer.specs.declared.gate.Daemon.TheVariants.{Schedd}
use Rattle.pool_state.specs.declared.state.PoolState.{PoolState}
use Rattle.pool_tables.specs.DaemonTables.{is_up, daemon_state}
use Rattle.queue_tx.specs.declared.key.Key.TheVariants.{Proc}
use Rattle.queue_tx.specs.Kinds.{kind_of}
use Rattle.queue_tx.specs.Queues.{ad_at}
use Rattle.schedd_state.specs.Schedds.{engages_job}

abbrev pub has_job_by : Option Attributes → Bool → Bool
has_job_by None finished = finished
has_job_by (Some ad) finished = is_some (kind_of ad)

-- the pool has the job, or had it
abbrev pub has_job : JobId → PoolState → Bool
has_job job s = has_job_by (ad_at (Proc job) s.queue) (is_finished job s.finished)

-- a claim that is asked for or ready names the job; a schedd that is down has none
abbrev pub is_engaged : JobId → PoolState → Bool
is_engaged job s = is_up (daemon_state Schedd s.daemons) && engages_job s.schedd job
