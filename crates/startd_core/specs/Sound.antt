-- What always holds of a startd: its slots have the numbers of their places, and each one's pair,
-- claims and run agree.
use Rattle.std.specs.Prelude.{◌≡◌, ℕ, ◌+◌, List, Some, slice_get}
use Rattle.startd_slot.specs.declared.slot.Slot.{Slot}
use Rattle.startd_slot.specs.Consistent.{IsConsistent, IsSettled}
use Rattle.startd_core.specs.declared.offers.Machine.{Machine}
use Rattle.startd_core.specs.Startds.{StartdValue}

-- the slot of a place, counted from 0
pub record IsSlotAt (m : Machine) (place : ℕ) (slot : Slot) : Type 0 where
  pub numbered : slot.id ≡ record { machine = m.number; slot = place + 1 }
  pub consistent : IsConsistent m.boot slot.id slot.state
  pub settled : IsSettled slot.state

abbrev pub AreSound : Machine → List Slot → Type 0
AreSound m slots =
    (place : ℕ) (slot : Slot) → slice_get slots place ≡ Some slot → IsSlotAt m place slot

pub record IsSound (v : StartdValue) : Type 0 where
  pub slots : AreSound v.machine v.slots
