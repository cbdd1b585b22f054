-- A slot is due where one of those that are left is; and so is one seen whose Start is looked at.
use Rattle.std.proofs.Common.{◌≡◌, true, drop}
use Rattle.startd_core.specs.DueTicks.{is_any_due, is_start_seen}
use Rattle.startd_core.proofs.due.is_any_due.Given as goal

abbrev pub invariant-loop-slot : goal.invariant-loop-slot
invariant-loop-slot l = record {
  due : is_any_due l.slots l.settings l.reading
      ≡ is_any_due (drop l.slot-index l.slots) l.settings l.reading;
  seen : is_start_seen (drop l.slot-index l.slots) ≡ true → is_start_seen l.slots ≡ true;
}
