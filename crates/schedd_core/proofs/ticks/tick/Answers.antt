use Rattle.schedd_core.proofs.Prepared.{tick_taken}
use Rattle.schedd_core.proofs.ticks.tick.Goals as goal

pub returns-clause-ticked : goal.returns-clause-ticked
returns-clause-ticked c =
    tick_taken c.args.schedd.now c.args.queue.now c.args.reading c.in_ok-prepared.prepared _ _
    c.commit.ensures.schedd c.commit.ensures.step c.in_ok-prepared.ensures.ticked
