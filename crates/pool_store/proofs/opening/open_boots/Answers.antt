use Rattle.std.proofs.Common.{◌∙◌}
use Rattle.pool_store.proofs.Moments.{quiet_behind}
use Rattle.pool_store.proofs.opening.open_boots.Goals as goal

pub returns-in-Ok-clause-quiet : goal.returns-in-Ok-clause-quiet
returns-in-Ok-clause-quiet g c tells other apart =
    let m = g.D.Store in
    let r = c.read_solid.ensures in
    let same = r.others tells other apart in
    quiet_behind m.file m.solid m.moment m.left_since other c.args.store.now c.read_solid.new.store c.cut_tail.new.store same.0 same.1
    (r.quiet tells other apart) (c.cut_tail.ensures.quiet (r.told ∙ tells) other apart)
