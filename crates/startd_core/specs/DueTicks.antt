-- When a tick is due.
use Rattle.std.specs.Prelude.{ℕ, Bool, true, false, not, ◌&&◌, ◌||◌, List, [], ◌∷◌, Option, Some, None, Result, Ok, Err, nat_lt}
use Rattle.ad_value.specs.declared.memory.Memory.{Memory}
use Rattle.pool_mail.specs.declared.settings.Settings.{Settings}
use Rattle.startd_slot.specs.declared.slot.Slot.{Slot}
use Rattle.startd_core.specs.Offers.{has_entered}
use Rattle.startd_core.specs.Startds.{StartdValue}
use Rattle.startd_core.specs.TickTable.{is_act, is_update_due, looks_at_start, slot_row}

-- a cue or an Update would come to the slot
abbrev pub is_slot_due : Slot → Settings → ℕ → Bool
is_slot_due slot set reading =
    is_update_due slot.state set reading || is_act (slot_row slot set reading)

abbrev pub is_any_due : List Slot → Settings → ℕ → Bool
is_any_due [] set reading = false
is_any_due (slot ∷ slots) set reading =
    is_slot_due slot set reading || is_any_due slots set reading

abbrev pub is_due_after : Option ℕ → StartdValue → ℕ → Bool
is_due_after None v reading = true
is_due_after (Some ticked) v reading = v.restless
    || (nat_lt ticked reading && is_any_due v.slots v.settings reading)

-- at the first turn after a boot; where a slot entered Owner, Retiring or Vacating in the last tick
-- or after it; at a reading later than the last tick's, where a cue or an Update would come
abbrev pub is_due : StartdValue → ℕ → Bool
is_due v reading = is_due_after v.ticked v reading

-- one of the slots entered Owner, Retiring or Vacating
abbrev pub has_any_entered : List Slot → List Slot → Bool
has_any_entered [] news = false
has_any_entered (old ∷ olds) [] = false
has_any_entered (old ∷ olds) (new ∷ news) =
    has_entered old.state new.state || has_any_entered olds news

-- ---- without memory
-- a tick would look at the Start of one of the slots
abbrev pub is_start_seen : List Slot → Bool
is_start_seen [] = false
is_start_seen (slot ∷ slots) = looks_at_start slot.state.pair || is_start_seen slots

abbrev pub hangs_on_start_after : Option ℕ → StartdValue → ℕ → Bool
hangs_on_start_after None v reading = false
hangs_on_start_after (Some ticked) v reading =
    not v.restless && (nat_lt ticked reading && is_start_seen v.slots)

-- whether a tick is due hangs on the Start of a slot: nothing else makes it due at once
abbrev pub hangs_on_start : StartdValue → ℕ → Bool
hangs_on_start v reading = hangs_on_start_after v.ticked v reading

-- a tick is tried where it is due, and where there was no memory to tell
abbrev pub is_tick_tried : Result Bool Memory → Bool
is_tick_tried (Ok due) = due
is_tick_tried (Err memory) = true
