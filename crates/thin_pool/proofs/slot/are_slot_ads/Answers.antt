use Rattle.thin_pool.proofs.Idle.{another_slot_ad}
use Rattle.thin_pool.proofs.slot.are_slot_ads.Goals as goal

pub returns-in-None : goal.returns-in-None
returns-in-None c = another_slot_ad c.loop-slot.left.now c.args.slots.now c.loop-slot.slot-index c.slot-item.result c.loop-slot.invariant c.loop-slot-test.true c.slot-item.is c.in-None.ensures
