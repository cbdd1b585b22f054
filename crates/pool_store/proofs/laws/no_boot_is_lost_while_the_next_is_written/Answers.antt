use Rattle.pool_store.proofs.Openings.{said_while_written}
use Rattle.pool_store.proofs.laws.no_boot_is_lost_while_the_next_is_written.Goals as goal

pub returns : goal.returns
returns c = said_while_written
