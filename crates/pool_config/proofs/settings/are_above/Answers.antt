use Rattle.pool_config.proofs.Machines.{above_left, within_left}
use Rattle.pool_config.proofs.settings.are_above.Goals as goal

pub returns-then-slots-left : goal.returns-then-slots-left
returns-then-slots-left c =
    above_left c.args.machines.now c.loop-machine.machine-index c.machine-item.result c.loop-machine.left c.from-slots.result c.args.more c.loop-machine-test.true c.machine-item.is c.from-slots.ensures c.loop-machine.invariant c.if-slots-left.true

pub loop-machine-preserved : goal.loop-machine-preserved
loop-machine-preserved c =
    within_left c.args.machines.now c.loop-machine.machine-index c.machine-item.result c.loop-machine.left c.from-slots.result c.loop-machine-test.true c.machine-item.is c.from-slots.ensures c.loop-machine.invariant c.if-slots-left.false
