use Rattle.std.proofs.Common.{◌≡◌, ◌==◌, false, ap, ◌∙◌, ne_eqb}
use Rattle.pool_state.proofs.Startds.{next_machine, next_startd}
use Rattle.pool_state.proofs.opening.put_slot.Goals as goal

pub returns-clause-startds : goal.returns-clause-startds
returns-clause-startds c =
    let slot = c.args.slot.now in
    let other : (slot.slot.machine == c.args.last.now.machine.number) ≡ false = ap (λ n. slot.slot.machine == n) c.requires ∙ ne_eqb _ _ c.if-slot-machine.false in
    next_startd c.add_slot-2.result c.args.machinery slot c.args.startds.now.items c.push.new.self.items c.args.last.now c.replace-done.result c.replace-done.new.dest c.add_slot-2.new.startd other c.replace-done.ensures.value c.in_ok-push.ensures.items (c.replace-done.ensures.after ∙ c.new_startd.ensures) c.add_slot-2.ensures

pub returns-clause-machine : goal.returns-clause-machine
returns-clause-machine c =
    next_machine c.add_slot-2.result c.args.machinery c.args.slot.now c.replace-done.new.dest c.add_slot-2.new.startd (c.replace-done.ensures.after ∙ c.new_startd.ensures) c.add_slot-2.ensures
