use Rattle.std.proofs.Common.{rules}
use Rattle.starter.specs.Spawners.{spawner_value}
use Rattle.starter.proofs.Keeping.{has_ended}
use Rattle.starter.proofs.launcher.Launcher.poll.Goals as goal

pub invariant_of-self-2 : goal.invariant_of-self-2
invariant_of-self-2 g c =
    let spawner = spawner_value g.P.Spawner.tells g.P.Spawner.count g.P.Spawner.launches g.P.Spawner.seen g.P.Spawner.killed g.P.Spawner.faults in
    (search rules, has_ended (spawner c.self.inside.spawner) (spawner c.look_at.new.spawner) c.self.inside.given.items c.self.inside.children.list c.remove.new.self.list c.self.inside.endings.list c.put.new.endings.list c.args.place c.get-child.result c.look_at.result c.in-Some.end c.get-child.ensures (c.remove.ensures.list c.get-child.result) c.in-Some.is c.put.ensures.list c.look_at.ensures c.self.invariant.1)
