use Rattle.pool_rules.proofs.Opening.{opening_linked, opening_protocol}
use Rattle.pool_rules.proofs.linked_pools.openings_are_linked.Goals as goal

pub returns : goal.returns
returns c = λ a opening. (opening_protocol a, opening_linked a opening)
