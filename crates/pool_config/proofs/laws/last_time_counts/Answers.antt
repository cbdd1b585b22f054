use Rattle.pool_config.proofs.Times.{last_counts}
use Rattle.pool_config.proofs.laws.last_time_counts.Goals as goal

pub returns : goal.returns
returns c = last_counts
