-- Which runs a startd says to be over.
use Rattle.std.specs.Prelude.{◌≡◌, ℕ, true, false, Option, Some, None, slice_get}
use Rattle.claim_id.specs.declared.numbers.RunNo.{RunNo}
use Rattle.startd_slot.specs.declared.slot.Slot.{Slot}
use Rattle.startd_slot.specs.declared.slot.SlotState.{SlotState}
use Rattle.startd_slot.specs.Over.{SayOver}
use Rattle.startd_slot.specs.SlotStates.{is_spent, runs_on, slot_after_boot}
use Rattle.startd_core.specs.Startds.{After, StartdValue, slot_of}

-- how a slot stands; one that the machine doesn't have never had a claim
abbrev pub state_in : Option Slot → SlotState
state_in None = slot_after_boot 0
state_in (Some slot) = slot.state

-- a run can start no more, by the slot of its claim
abbrev pub IsSpentHere : StartdValue → RunNo → Type 0
IsSpentHere v run = is_spent (state_in (slot_of v run.claim.slot)) v.machine.boot run ≡ true

-- a run is on no slot of the machine
abbrev pub IsNotHere : StartdValue → RunNo → Type 0
IsNotHere v run = (place : ℕ) (slot : Slot) → slice_get v.slots place ≡ Some slot
    → runs_on slot.state run ≡ false

abbrev pub IsOverHere : StartdValue → RunNo → Type 0
IsOverHere v run = IsSpentHere v run × IsNotHere v run

-- every run that an event's mails say to be over is, as the startd stands after it
abbrev pub SaysOnlyOver : After → Type 0
SaysOnlyOver after = SayOver (IsOverHere after.startd) after.step.mails
