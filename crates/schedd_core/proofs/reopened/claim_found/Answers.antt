use Rattle.std.proofs.Common.{ap}
use Rattle.schedd_state.specs.Reopening.{claim_found}
use Rattle.schedd_core.proofs.reopened.claim_found.Goals as goal

pub returns : goal.returns
returns c = ap (claim_found c.args.run.now) c.in_ok-copy.ensures
