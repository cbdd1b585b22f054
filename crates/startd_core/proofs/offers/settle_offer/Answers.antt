use Rattle.std.proofs.Common.{rules}
use Rattle.startd_core.proofs.offers.settle_offer.Goals as goal

pub returns-clause-state : goal.returns-clause-state
returns-clause-state c = search rules
