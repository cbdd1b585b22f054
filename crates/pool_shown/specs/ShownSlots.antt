-- The runs, the marks and the ads that slots show.
use Rattle.std.specs.Prelude.{ℕ, List, [], ◌∷◌, ◌++◌, filter_map, map, Option, Some, None, option_map}
use Rattle.pool_outer.specs.declared.gate.Daemon.TheVariants.{Startd}
use Rattle.pool_shown.specs.declared.slots.ShownSlots.{ShownSlots}
use Rattle.pool_tables.specs.declared.states.DaemonState.{DaemonState}
use Rattle.pool_tables.specs.DaemonTables.{DaemonsValue, daemon_state}
use Rattle.pool_view.specs.declared.mark.MarkEntry.{MarkEntry}
use Rattle.pool_view.specs.declared.run.Run.{Run}
use Rattle.pool_view.specs.declared.view.SlotEntry.{SlotEntry}
use Rattle.startd_slot.specs.declared.slot.Slot.{Slot}
use Rattle.startd_slot.specs.SlotMoves.{mark_of, run_in_slot}
use Rattle.startd_slot.specs.SlotStates.{running_of}

abbrev pub boot_in : Option DaemonState → ℕ
boot_in None = 0
boot_in (Some s) = s.boot

-- the boot of the slot's machine
abbrev pub boot_at : DaemonsValue → Slot → ℕ
boot_at d s = boot_in (daemon_state (Startd s.id.machine) d)

abbrev pub run_on : Slot → Option Run
run_on s = option_map (run_in_slot s.id) (running_of s.state)

abbrev pub mark_on : DaemonsValue → Slot → MarkEntry
mark_on d s = record { slot = s.id; mark = mark_of (boot_at d s) s.state }

abbrev pub ad_on : Slot → SlotEntry
ad_on s = record { slot = s.id; ad = s.ad }

-- what slots show, in order
abbrev pub shown_slots : DaemonsValue → List Slot → ShownSlots
shown_slots d slots = record {
  runs = filter_map run_on slots;
  marks = map (mark_on d) slots;
  ads = map ad_on slots;
}

-- what more slots show comes after what was shown
abbrev pub with_slots : DaemonsValue → ShownSlots → List Slot → ShownSlots
with_slots d shown slots = record {
  runs = shown.runs ++ filter_map run_on slots;
  marks = shown.marks ++ map (mark_on d) slots;
  ads = shown.ads ++ map ad_on slots;
}

abbrev pub one_run : Option Run → List Run
one_run None = []
one_run (Some run) = run ∷ []

abbrev pub with_slot : DaemonsValue → ShownSlots → Slot → ShownSlots
with_slot d shown s = record {
  runs = shown.runs ++ one_run (run_on s);
  marks = shown.marks ++ mark_on d s ∷ [];
  ads = shown.ads ++ ad_on s ∷ [];
}
