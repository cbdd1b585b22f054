use Rattle.std.proofs.Common.{◌∙◌, ap}
use Rattle.pool_shown.specs.ShownSlots.{with_slots}
use Rattle.pool_shown.proofs.Steps.{slots_on}
use Rattle.pool_shown.proofs.slots.shown_slots.Goals as goal

pub loop-startd-preserved : goal.loop-startd-preserved
loop-startd-preserved c =
    slots_on c.args.daemons.now c.args.startds.now c.loop-startd.startd-index c.startd-item.result c.loop-startd.shown c.push_slots.new.shown _
    c.loop-startd-test.true c.startd-item.is c.loop-startd.invariant
    (c.in_ok-push_slots.ensures ∙ ap (with_slots c.args.daemons.now c.loop-startd.shown) c.slots.ensures)
