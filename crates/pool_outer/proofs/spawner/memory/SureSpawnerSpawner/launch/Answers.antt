use Rattle.std.proofs.Common.{rules}
use Rattle.pool_outer.proofs.spawner.memory.SureSpawnerSpawner.launch.Goals as goal

pub returns-clause-ok : goal.returns-clause-ok
returns-clause-ok c = search rules
