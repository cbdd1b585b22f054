use Rattle.std.proofs.Common.{◌≡◌, rules}
use Rattle.startd_core.specs.Startds.{StartdValue, startd_value, with_slot}
use Rattle.startd_core.proofs.Stays.{slot_stands}
use Rattle.startd_core.proofs.startd.Startd.add_slot.Goals as goal

pub invariant_of-self-2 : goal.invariant_of-self-2
invariant_of-self-2 c =
    let old = c.self.inside in
    let v : StartdValue = startd_value old.machine old.settings old.offers old.slots.items old.ticked old.restless in
    let added : c.push.new.self.items ≡ (with_slot c.args.name c.args.ad v).slots = search rules in
    slot_stands v c.args.name c.args.ad c.push.new.self.items added c.self.invariant
