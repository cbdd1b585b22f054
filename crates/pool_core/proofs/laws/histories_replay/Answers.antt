use Rattle.pool_core.proofs.Growing.{replays}
use Rattle.pool_core.proofs.laws.histories_replay.Goals as goal

pub returns : goal.returns
returns c = replays
