-- The parts of a pool, as far as its safety rests on them.
use Rattle.std.specs.Prelude.{ℕ, List, [], ◌∷◌, ◌++◌, map, slice_get, Option, Some, None}
use Rattle.claim_id.specs.declared.numbers.JobId.{JobId}
use Rattle.claim_id.specs.declared.numbers.SlotId.{SlotId}
use Rattle.pool_mail.specs.declared.mail.Mail.{Mail}
use Rattle.pool_view.specs.SlotPart.{SlotPart}
use Rattle.pool_view.specs.declared.job.Entry.{Entry}
use Rattle.pool_view.specs.declared.run.EndReport.{EndReport}
use Rattle.queue_tx.specs.Operations.{Operation}
use Rattle.queue_tx.specs.Queues.{KeyedAds}
use Rattle.schedd_plan.specs.declared.plan.JobPlan.{JobPlan}
use Rattle.schedd_state.specs.Schedds.{ScheddValue}
use Rattle.startd_slot.specs.declared.slot.Slot.{Slot}
use Rattle.startd_slot.specs.SlotMoves.{part_of}
use Rattle.startd_core.specs.Startds.{StartdValue, slot_of}

-- what an unfinished transaction is to do: to bring jobs into the queue, or to follow a plan
pub data Awaited : Type 0 where
  NewJobs : (jobs : List JobId) (tx : List Operation) → Awaited
  Planned : (plan : JobPlan) → Awaited

-- The lists of jobs and of reports are sets: only the members count.
pub record PoolParts : Type 0 where
  pub moment : ℕ  -- the greatest reading
  pub startds : List StartdValue  -- by machine
  pub schedd : ScheddValue
  pub queue : KeyedAds  -- as logged
  pub mails : List Mail  -- all that were ever sent
  pub awaited : Option Awaited  -- the unfinished transaction
  pub finished : JobId → Option Entry  -- the jobs that have left the queue
  pub acked : List JobId  -- the jobs that were acknowledged
  pub ordered : List JobId  -- the jobs that were ordered to be removed
  pub reports : List EndReport  -- of the runs that have ended

-- ---- the slots of a pool
-- of a machine, as parts of the protocol
abbrev pub machine_parts : StartdValue → List SlotPart
machine_parts v = map (part_of v.machine.boot) v.slots

-- of all machines, in order
abbrev pub pool_parts : List StartdValue → List SlotPart
pool_parts [] = []
pool_parts (v ∷ vs) = machine_parts v ++ pool_parts vs

abbrev pub slot_of_startd : Option StartdValue → SlotId → Option Slot
slot_of_startd None slot = None
slot_of_startd (Some v) slot = slot_of v slot

-- the slot of that number
abbrev pub slot_in_pool : List StartdValue → SlotId → Option Slot
slot_in_pool vs slot = slot_of_startd (slice_get vs slot.machine) slot
