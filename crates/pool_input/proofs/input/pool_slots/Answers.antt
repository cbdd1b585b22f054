use Rattle.std.proofs.Common.{arith, ◌∙◌, map, take_all, ap}
use Rattle.pool_input.specs.Input.{pool_slot}
use Rattle.pool_input.proofs.Pieces.{mapped_more}
use Rattle.pool_input.proofs.input.pool_slots.Goals as goal

pub loop-slot-preserved : goal.loop-slot-preserved
loop-slot-preserved c = mapped_more pool_slot c.as_slice-each.result.now c.loop-slot.slot-index c.slot-item.result c.in_ok-pool_slot.field-0 c.loop-slot.slots c.push.new.self (omega arith) c.slot-item.is c.loop-slot.invariant c.in_ok-pool_slot.ensures c.in_ok-push.ensures.ok

pub returns : goal.returns
returns c = c.loop-slot.invariant ∙ ap (map pool_slot) (take_all c.loop-slot.slot-index c.as_slice-each.result.now c.loop-slot-test.false ∙ c.as_slice-each.ensures ∙ c.in_ok-configured.ensures)
