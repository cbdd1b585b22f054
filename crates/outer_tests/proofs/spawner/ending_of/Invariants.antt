-- The child stays one of those that were launched.
use Rattle.std.proofs.Common.{◌<◌}
use Rattle.outer_tests.proofs.spawner.ending_of.Given as goal

abbrev pub invariant-looks : goal.invariant-looks
invariant-looks g l = l.child < g.P.Spawner.count l.spawner
