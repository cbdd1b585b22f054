-- What the entries of a pass have to do with the pool, after every event.
use Rattle.std.specs.Prelude.{◌≡◌, ℕ, ◌-◌, ◌≤◌, true, List, length, option_map, slice_get, Option, Some, None, IsSomeAnd}
use Rattle.claim_id.specs.declared.numbers.RunNo.{RunNo}
use Rattle.desk.specs.declared.entry.Entry.{Entry}
use Rattle.desk.specs.Launches.{was_launched}
use Rattle.desk.specs.Logs.{LogSoFar, Numbered, log_of}
use Rattle.pool_outer.specs.declared.gate.Daemon.{Daemon}
use Rattle.pool_outer.specs.declared.gate.Daemon.TheVariants.{Schedd, Startd}
use Rattle.pool_parts.specs.declared.pending.Pending.{Pending}
use Rattle.pool_state.specs.declared.state.PoolState.{PoolState}
use Rattle.pool_view.specs.AbstractPool.{IsSpentAt}
use Rattle.receipt_roll.specs.Values.{RollMark}
use Rattle.startd_core.specs.Sound.{IsSound}
use Rattle.startd_core.specs.Startds.{StartdValue, slot_of}
use Rattle.startd_slot.specs.declared.slot.Slot.{Slot}
use Rattle.startd_slot.specs.SlotMoves.{mark_of}
use Rattle.startd_slot.specs.SlotStates.{runs_on}

-- ---- the schedd
abbrev pub numbered : Pending → Numbered
numbered p = (p.number, p.tx)

-- The unfinished transaction is the one of which the entries don't say yet whether it was logged,
-- and no more were logged by them than the pool has numbered.
pub record LogStands (log : LogSoFar) (pending : Option Pending) (next : ℕ) : Type 0 where
  pub few : length log.list ≤ next
  pub unlogged : log.unlogged ≡ option_map numbered pending

-- how many were logged before all entries
abbrev pub logged_before : List Entry → PoolState → ℕ
logged_before mine s = s.next_tx - length (log_of mine).list

-- ---- a startd
-- a run can start no more, by the slot of its claim
abbrev pub IsSpentIn : StartdValue → RunNo → Type 0
IsSpentIn v run = IsSomeAnd (slot_of v run.claim.slot)
    (λ slot. IsSpentAt run (mark_of v.machine.boot slot.state))

-- Every run that was launched can start no more, and every run of a slot was launched.
pub record RunsStand (mine : List Entry) (v : StartdValue) : Type 0 where
  pub sound : IsSound v
  pub spent : (run : RunNo) → was_launched run mine ≡ true → IsSpentIn v run
  pub launched : (place : ℕ) (slot : Slot) (run : RunNo) → slice_get v.slots place ≡ Some slot
      → runs_on slot.state run ≡ true → was_launched run mine ≡ true

-- ---- the holder of a pass
abbrev pub Stands : Option Daemon → List Entry → PoolState → Type 0
Stands (Some Schedd) mine s = LogStands (log_of mine) s.pending s.next_tx
Stands (Some (Startd machine)) mine s =
    (v : StartdValue) → slice_get s.machines machine ≡ Some v → RunsStand mine v
Stands _ mine s = Unit {0}

-- ---- the rolls
abbrev pub mark_or : Option RollMark → RollMark → RollMark
mark_or None other = other
mark_or (Some mark) other = mark

-- which the roll of ends of a startd is; of another, whatever
abbrev pub end_mark_of : Option Daemon → PoolState → RollMark
end_mark_of (Some (Startd machine)) s =
    mark_or (slice_get s.end_marks machine) s.log_mark
end_mark_of _ s = s.log_mark

-- the pool has the roll of ends of a startd
abbrev pub HasRoll : Option Daemon → PoolState → Type 0
HasRoll (Some (Startd machine)) s =
    IsSomeAnd (slice_get s.end_marks machine) (λ mark. Unit {0})
HasRoll _ s = Unit {0}
