use Rattle.pool_rules.proofs.ScheddEvents.{mail_keeps}
use Rattle.pool_rules.proofs.schedd.received_mails_keep_pools.Goals as goal

pub returns : goal.returns
returns c = mail_keeps
