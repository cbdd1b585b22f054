-- A pass that has its pool.
use Rattle.std.specs.Prelude.{◌≡◌, ℕ, Bool, List, [], ◌∷◌, ◌++◌, Option, Some, None, IfSome, IsSome, slice_get}
use Rattle.desk.specs.declared.entry.Entry.{Entry}
use Rattle.desk.specs.Entries.{entry_of}
use Rattle.pool_parts.specs.declared.answer.Answer.{Answer}
use Rattle.pool_parts.specs.declared.event.Event.{Event}
use Rattle.pool_parts.specs.Answers.{kept_of}
use Rattle.pool_outer.specs.declared.gate.Daemon.{Daemon}
use Rattle.pool_outer.specs.declared.gate.Daemon.TheVariants.{Startd}
use Rattle.desk.specs.Standing.{HasRoll, Stands}
use Rattle.pool_state.specs.declared.state.PoolState.{PoolState}
use Rattle.pool_tables.specs.DaemonTables.{daemon_state}
use Rattle.startd_core.specs.Startds.{StartdValue}
use Rattle.startd_slot.specs.declared.slot.Slot.{Slot}
use Rattle.startd_slot.specs.SlotStates.{running_of}

pub record SolePassValue : Type 0 where
  pub holder : Option Daemon
  pub mine : List Entry
  pub closed : Bool
  pub pool : PoolState

-- the pool has the daemon
abbrev pub HasHolder : Option Daemon → PoolState → Type 0
HasHolder holder s = IfSome holder (λ who. IsSome (daemon_state who s.daemons))

-- one more entry, of this event and this answer, at its place in the history of the pool
abbrev pub HasOneMore : List Entry → PoolState → Event → Answer → List Entry → Type 0
HasOneMore before s e a now = now ≡ before ++ entry_of s.events e (kept_of a) ∷ []

-- what always holds of a pass
pub record StandsHere (holder : Option Daemon) (mine : List Entry) (s : PoolState) : Type 0 where
  pub there : HasHolder holder s
  pub roll : HasRoll holder s
  pub stands : Stands holder mine s

-- no slot of the machine has a run
abbrev pub IsAtRest : StartdValue → Type 0
IsAtRest v = (place : ℕ) (slot : Slot) → slice_get v.slots place ≡ Some slot
    → running_of slot.state ≡ None

abbrev pub IsFree : Option Daemon → PoolState → Type 0
IsFree (Some (Startd machine)) s =
    (v : StartdValue) → slice_get s.machines machine ≡ Some v → IsAtRest v
IsFree _ s = Unit {0}

-- What a holder's pool has to be: it has the holder and its roll, no transaction is unfinished, and
-- nothing runs on the holder's machine.
pub record CanHold (holder : Option Daemon) (s : PoolState) : Type 0 where
  pub there : HasHolder holder s
  pub roll : HasRoll holder s
  pub logged : s.pending ≡ None
  pub free : IsFree holder s
