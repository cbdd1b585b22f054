use Rattle.pool_rules.proofs.Wanting.{wanted_linked}
use Rattle.pool_rules.proofs.linked_pools.sent_mails_keep_links.Goals as goal

pub returns : goal.returns
returns c = wanted_linked
