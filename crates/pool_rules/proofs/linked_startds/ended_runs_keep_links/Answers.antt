use Rattle.pool_rules.proofs.StartdEnds.{end_linked}
use Rattle.pool_rules.proofs.linked_startds.ended_runs_keep_links.Goals as goal

pub returns : goal.returns
returns c = end_linked
