use Rattle.schedd_core.proofs.Prepared.{ticked_so}
use Rattle.schedd_core.proofs.ticks.prepare_tick.Goals as goal

pub returns-clause-ticked : goal.returns-clause-ticked
returns-clause-ticked c =
    ticked_so c.args.schedd.now c.args.queue.now c.args.reading c.tick_line-line.result c.sought-found.result c.in_ok-prepared.prepared
    c.tick_line-line.ensures c.sought-found.ensures c.in_ok-prepared.ensures

pub returns-clause-room : goal.returns-clause-room
returns-clause-room c = c.in_ok-prepared.ensures.room
