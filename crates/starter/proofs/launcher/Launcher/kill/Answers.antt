use Rattle.std.proofs.Common.{rules}
use Rattle.starter.specs.Spawners.{spawner_value}
use Rattle.starter.proofs.Keeping.{is_doomed}
use Rattle.starter.proofs.launcher.Launcher.kill.Goals as goal

pub invariant_of-self : goal.invariant_of-self
invariant_of-self g c =
    let spawner = spawner_value g.P.Spawner.tells g.P.Spawner.count g.P.Spawner.launches g.P.Spawner.seen g.P.Spawner.killed g.P.Spawner.faults in
    (search rules, is_doomed (spawner c.self.inside.spawner) (spawner c.kill.new.spawner) c.self.inside.given.items c.self.inside.children.list c.doom.new.self.list c.self.inside.endings.list c.args.place c.get-child.result c.get-child.ensures c.doom.ensures.list c.kill.ensures c.self.invariant.1)
