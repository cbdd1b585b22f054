use Rattle.std.proofs.Common.{get_or}
use Rattle.pool_master.specs.Seen.{spawner_seen}
use Rattle.pool_master.proofs.Spawners.{child_ran, ran_on, no_child_ran, none_ran_on, set_other}
use Rattle.pool_master.proofs.play.run_on.Goals as goal

pub returns : goal.returns
returns g c =
    let spawner = spawner_seen g.P.Spawner.tells g.P.Spawner.count g.P.Spawner.launches g.P.Spawner.seen g.P.Spawner.killed g.P.Spawner.faults in
    let old = get_or c.args.spawners.now c.args.machine c.index-spawners-machine.result in
    let one = c.run_child.ensures in
    record {
      ran = ran_on spawner c.args.spawners.now c.args.machine c.index-spawners-machine.result c.run_child.new.spawner c.args.what.now c.run_child.result c.requires (child_ran c.args.what.now c.run_child.result (spawner old) (spawner c.run_child.new.spawner) one.told (g.met.P.Spawner.counted old) one.count one.launched one.seen one.others one.spared one.not_started one.later);
      not_run = none_ran_on spawner c.args.spawners.now c.args.machine c.index-spawners-machine.result c.run_child.new.spawner c.run_child.result c.requires (no_child_ran c.run_child.result (spawner old) (spawner c.run_child.new.spawner) one.told (g.met.P.Spawner.counted old) one.uncounted one.refused one.others one.spared one.later);
      others = set_other c.args.spawners.now c.args.machine c.run_child.new.spawner;
    }
