use Rattle.std.proofs.Common.{◌∙◌, sym}
use Rattle.pool_master.proofs.Walks.{named_here, named_behind}
use Rattle.pool_master.proofs.user_log.slot_name_at.Goals as goal

pub loop-slot-preserved : goal.loop-slot-preserved
loop-slot-preserved c = named_behind c.args.slots.now c.args.id c.loop-slot.slot-index c.slot-item.result c.eq.result c.loop-slot-test.true c.slot-item.is c.eq.ensures c.if-eq.false c.loop-slot.invariant

pub returns-then-eq : goal.returns-then-eq
returns-then-eq c = c.as_str.ensures ∙ sym (named_here c.args.slots.now c.args.id c.loop-slot.slot-index c.slot-item.result c.eq.result c.loop-slot-test.true c.slot-item.is c.eq.ensures c.if-eq.true c.loop-slot.invariant)
