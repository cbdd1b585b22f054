use Rattle.pool_rules.proofs.ScheddKept.{time_linked}
use Rattle.pool_rules.proofs.linked_startds.readings_keep_links.Goals as goal

pub returns : goal.returns
returns c = time_linked
