use Rattle.pool_store.proofs.Openings.{whole_say}
use Rattle.pool_store.proofs.laws.whole_lines_say_the_same.Goals as goal

pub returns : goal.returns
returns c = whole_say
