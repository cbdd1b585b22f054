use Rattle.std.proofs.Common.{◌∙◌}
use Rattle.startd_core.proofs.Taken.{slot_ticked}
use Rattle.startd_core.proofs.ticks.tick_slots.Goals as goal

pub loop-slot-preserved : goal.loop-slot-preserved
loop-slot-preserved c =
    slot_ticked c.args.machine c.args.settings.now c.args.slots.now c.loop-slot.slot-index c.slot-item.result c.args.reading c.loop-slot.ticks c.tick.new.self c.loop-slot-test.true c.slot-item.is c.in_ok-tick.ensures
    ∙ c.loop-slot.invariant
