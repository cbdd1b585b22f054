-- Nothing runs, and the spawners go on following the history.
use Rattle.std.proofs.Common.{◌≡◌}
use Rattle.thin_pool.specs.Histories.{submissions_in}
use Rattle.thin_pool.specs.Resting.{IsResting, idle_count}
use Rattle.pool_input.specs.Readings.{AreRead}
use Rattle.pool_master.specs.Follows.{EachGoesOn, IsBetween, StayUntouched}
use Rattle.pool_master.specs.Runs.{runs_in}
use Rattle.pool_master.specs.Seen.{spawner_seen}
use Rattle.pool_master.proofs.play.play.Given as goal

abbrev pub invariant-turns : goal.invariant-turns
invariant-turns g l = record {
  resting : IsResting l.course.pool;
  between : IsBetween (spawner_seen g.P.Spawner.tells g.P.Spawner.count g.P.Spawner.launches g.P.Spawner.seen g.P.Spawner.killed g.P.Spawner.faults) l.spawners (runs_in l.course.list);
  follows : EachGoesOn (spawner_seen g.P.Spawner.tells g.P.Spawner.count g.P.Spawner.launches g.P.Spawner.seen g.P.Spawner.killed g.P.Spawner.faults) l.fn.spawners l.spawners (runs_in l.fn.course.list) (runs_in l.course.list);
  untouched : StayUntouched l.fn.spawners l.spawners (runs_in l.fn.course.list) (runs_in l.course.list);
  read : AreRead (g.C.Clock.allows l.clock) l.fn.course.list → AreRead (g.C.Clock.allows l.clock) l.course.list;
  submits : submissions_in l.course.list ≡ submissions_in l.fn.course.list;
  slots : l.course.pool.slots ≡ l.fn.course.pool.slots;
  opening : l.course.opening ≡ l.fn.course.opening;
}

abbrev pub decreases-turns : goal.decreases-turns
decreases-turns g l = idle_count l.course.pool
