-- What is told of a slot, part by part.
use Rattle.std.specs.Prelude.{ℕ, Bool, ◌||◌, List, [], ◌∷◌, ◌++◌, if◌then◌else◌}
use Rattle.pool_mail.specs.declared.mail.Mail.{Mail}
use Rattle.startd_core.specs.declared.ticks.Ticks.{Ticks}
use Rattle.startd_slot.specs.declared.slot.Slot.{Slot}
use Rattle.startd_slot.specs.declared.slot.SlotState.{SlotState}
use Rattle.startd_core.specs.Offers.{has_entered, update_of, with_told}

abbrev pub told_state : Bool → ℕ → SlotState → SlotState
told_state tells reading s = if tells then with_told reading s else s

abbrev pub told_mails : Bool → Slot → SlotState → ℕ → List Mail → List Mail
told_mails tells slot s reading mails =
    if tells then mails ++ update_of slot (with_told reading s) reading ∷ [] else mails

-- the slots that were looked at, with one more, which stands so
abbrev pub with_told_slot : Slot → SlotState → Bool → ℕ → Ticks → Ticks
with_told_slot slot s tells reading t = record t {
  slots = t.slots ++ record slot { state = told_state tells reading s } ∷ [];
  mails = told_mails tells slot s reading t.mails;
  restless = t.restless || has_entered slot.state (told_state tells reading s);
}
