-- The parts of a pool that has just been opened.
use Rattle.std.specs.Prelude.{◌≡◌, ◌↔◌, ℕ, [], Some, None, slice_get}
use Rattle.claim_id.specs.declared.numbers.JobId.{JobId}
use Rattle.pool_mail.specs.declared.settings.Settings.{Settings}
use Rattle.pool_view.specs.AbstractPool.{IsIn}
use Rattle.schedd_core.specs.ScheddParts.{IsMarked, IsOrdered, IsThere}
use Rattle.schedd_state.specs.Schedds.{IsOpened}
use Rattle.startd_slot.specs.declared.slot.Slot.{Slot}
use Rattle.startd_slot.specs.SlotStates.{slot_after_boot}
use Rattle.startd_core.specs.Sound.{IsSound}
use Rattle.startd_core.specs.Startds.{StartdValue}
use Rattle.pool_rules.specs.PoolParts.{PoolParts}

-- a startd whose slots are as after a boot
pub record IsFreshStartd (machine : ℕ) (v : StartdValue) : Type 0 where
  pub numbered : v.machine.number ≡ machine
  pub sound : IsSound v
  pub slots : (s : Slot) → IsIn s v.slots → (reading : ℕ) × (s.state ≡ slot_after_boot reading)

-- the queue is ordered, its jobs count as acknowledged, and those that it marks as to be removed
-- count as ordered to be
pub record IsOpeningPool (a : PoolParts) : Type 0 where
  pub settings : Settings
  pub startds : (machine : ℕ) (v : StartdValue) → slice_get a.startds machine ≡ Some v
      → IsFreshStartd machine v
  pub queue : IsOrdered a.queue
  pub schedd : IsOpened a.queue settings a.schedd
  pub mails : a.mails ≡ []
  pub awaited : a.awaited ≡ None
  pub finished : (job : JobId) → a.finished job ≡ None
  pub acked : (job : JobId) → IsIn job a.acked ↔ IsThere a.queue job
  pub ordered : (job : JobId) → IsIn job a.ordered ↔ IsMarked a.queue job
  pub reports : a.reports ≡ []
