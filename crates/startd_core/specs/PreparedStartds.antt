-- What was prepared makes of a startd.
use Rattle.std.specs.Prelude.{ℕ, List, Option, Some, None, slice_get, slice_set}
use Rattle.startd_core.specs.declared.prepared.PreparedStartd.{PreparedStartd}
use Rattle.startd_core.specs.declared.prepared.SlotsChange.{SlotsChange}
use Rattle.startd_core.specs.declared.prepared.SlotsChange.TheVariants as slots
use Rattle.startd_core.specs.declared.prepared.StartdChange.{StartdChange}
use Rattle.startd_core.specs.Startds.{After, StartdValue}
use Rattle.startd_slot.specs.declared.slot.Slot.{Slot}
use Rattle.startd_slot.specs.declared.slot.SlotState.{SlotState}

abbrev pub put_slot : Option Slot → ℕ → SlotState → List Slot → List Slot
put_slot None place state xs = xs
put_slot (Some slot) place state xs = slice_set xs place (record slot { state = state })

abbrev pub slots_after : SlotsChange → List Slot → List Slot
slots_after slots.Same xs = xs
slots_after (slots.Slot place state) xs = put_slot (slice_get xs place) place state xs
slots_after (slots.All list) xs = list.items

abbrev pub change_after : StartdChange → StartdValue → StartdValue
change_after c v = record v {
  machine = record v.machine { boot = c.boot };
  offers = c.offers;
  slots = slots_after c.slots v.slots;
  ticked = c.ticked;
  restless = c.restless;
}

abbrev pub startd_after : PreparedStartd → StartdValue → StartdValue
startd_after p v = change_after p.change v

-- the startd then, and what is sent and done
abbrev pub after_prepared : PreparedStartd → StartdValue → After
after_prepared p v = record { startd = startd_after p v; step = p.step }
