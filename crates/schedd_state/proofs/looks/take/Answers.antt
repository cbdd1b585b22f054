use Rattle.schedd_state.proofs.LooksKept.{taken}
use Rattle.schedd_state.proofs.looks.take.Goals as goal

pub returns : goal.returns
returns c = taken c.args.time.0 c.args.time.1 c.args.times.now c.put.new.self c.put.ensures.entries
