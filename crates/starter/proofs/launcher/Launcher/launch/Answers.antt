use Rattle.std.proofs.Common.{is_ok, refl, rules, subst, Result, ℕ}
use Rattle.pool_outer.specs.declared.spawner.SpawnError.{SpawnError}
use Rattle.starter.specs.declared.given.Fate.TheVariants as fate
use Rattle.starter.specs.Spawners.{spawner_value, Starts}
use Rattle.starter.proofs.Counted.{no_child_of_new}
use Rattle.starter.proofs.Keeping.{begins, lost, none_started, room_spent, unstarted}
use Rattle.starter.proofs.launcher.Launcher.launch.Goals as goal

pub push-requires-clause-new : goal.push-requires-clause-new
push-requires-clause-new g c =
    let spawner = spawner_value g.P.Spawner.tells g.P.Spawner.count g.P.Spawner.launches g.P.Spawner.seen g.P.Spawner.killed g.P.Spawner.faults in
    no_child_of_new (spawner c.self.inside.spawner) c.self.inside.given.items c.self.inside.children.list c.self.inside.endings.list c.spend-what.result.0 c.self.invariant.1 (search rules)

pub invariant_of-self : goal.invariant_of-self
invariant_of-self g c =
    let spawner = spawner_value g.P.Spawner.tells g.P.Spawner.count g.P.Spawner.launches g.P.Spawner.seen g.P.Spawner.killed g.P.Spawner.faults in
    let started = subst (λ (r : Result ℕ SpawnError). Starts c.spend-what.result.2 (spawner c.self.inside.spawner) (spawner c.start.new.spawner) (is_ok r)) c.in-Ok.is c.start.ensures.starts in
    (room_spent _ c.self.inside.given c.note.new.given c.self.inside.children c.push.new.self _ c.self.inside.endings.spare (search rules) c.self.invariant.0 c.push.ensures.list, begins (spawner c.self.inside.spawner) (spawner c.start.new.spawner) c.self.inside.given.items c.note.new.given.items c.self.inside.children.list c.push.new.self.list c.self.inside.endings.list c.spend-what.result.0 c.spend-what.result.2 c.in-Ok.number started c.in-Ok.ensures.number (search rules) c.note.ensures c.push.ensures.list c.self.invariant.1)

pub invariant_of-self-in-Err-Failed : goal.invariant_of-self-in-Err-Failed
invariant_of-self-in-Err-Failed g c =
    let spawner = spawner_value g.P.Spawner.tells g.P.Spawner.count g.P.Spawner.launches g.P.Spawner.seen g.P.Spawner.killed g.P.Spawner.faults in
    let none = subst (λ (r : Result ℕ SpawnError). Starts c.spend-what.result.2 (spawner c.self.inside.spawner) (spawner c.start.new.spawner) (is_ok r)) c.in-Err-Failed.is c.start.ensures.starts in
    (search rules, unstarted (spawner c.self.inside.spawner) (spawner c.start.new.spawner) c.self.inside.given.items c.note-in-Err-Failed.new.given.items c.self.inside.children.list c.self.inside.endings.list c.put.new.endings.list c.spend-what.result.0 c.spend-what.result.2 fate.Refused refl refl (none_started _ _ c.spend-what.result.2 none) (search rules) c.note-in-Err-Failed.ensures c.put.ensures.list c.self.invariant.1)

pub invariant_of-self-in-Err-Memory : goal.invariant_of-self-in-Err-Memory
invariant_of-self-in-Err-Memory g c =
    let spawner = spawner_value g.P.Spawner.tells g.P.Spawner.count g.P.Spawner.launches g.P.Spawner.seen g.P.Spawner.killed g.P.Spawner.faults in
    let none = subst (λ (r : Result ℕ SpawnError). Starts c.spend-what.result.2 (spawner c.self.inside.spawner) (spawner c.start.new.spawner) (is_ok r)) c.in-Err-Memory.is c.start.ensures.starts in
    (search rules, lost (spawner c.self.inside.spawner) (spawner c.start.new.spawner) c.self.inside.given.items c.note-in-Err-Memory.new.given.items c.self.inside.children.list c.self.inside.endings.list c.spend-what.result.0 c.spend-what.result.2 (none_started _ _ c.spend-what.result.2 none) (search rules) c.note-in-Err-Memory.ensures c.self.invariant.1)
