use Rattle.std.proofs.Common.{refl, rules}
use Rattle.starter.specs.declared.given.Fate.TheVariants as fate
use Rattle.starter.specs.Spawners.{spawner_value}
use Rattle.starter.proofs.Keeping.{unchanged, unstarted}
use Rattle.starter.proofs.launcher.Launcher.decline.Goals as goal

pub invariant_of-self : goal.invariant_of-self
invariant_of-self g c =
    let spawner = spawner_value g.P.Spawner.tells g.P.Spawner.count g.P.Spawner.launches g.P.Spawner.seen g.P.Spawner.killed g.P.Spawner.faults in
    (search rules, unstarted (spawner c.self.inside.spawner) (spawner c.self.inside.spawner) c.self.inside.given.items c.note.new.given.items c.self.inside.children.list c.self.inside.endings.list c.put.new.endings.list c.spend-what.result.0 c.spend-what.result.2 fate.Declined refl refl (unchanged _) (search rules) c.note.ensures c.put.ensures.list c.self.invariant.1)
