use Rattle.schedd_steps.proofs.DeedReady.{begun_if, bytes_if, claims_if}
use Rattle.schedd_steps.proofs.schedd.ready_receipt.Goals as goal

pub returns-clause-claims : goal.returns-clause-claims
returns-clause-claims c = claims_if c.in_ok-prepared.prepared c.args.state.now.schedd c.new.result c.new.ensures.prepared c.in_ok-prepared.ensures.room

pub returns-clause-begun : goal.returns-clause-begun
returns-clause-begun c = begun_if c.in_ok-prepared.prepared c.args.state.now.next_tx c.new.result c.new.ensures.prepared c.new.ensures.begun

pub returns-clause-bytes : goal.returns-clause-bytes
returns-clause-bytes c = bytes_if c.in_ok-prepared.prepared c.args.state.now.counts.bytes c.new.result c.new.ensures.prepared c.new.ensures.bytes
