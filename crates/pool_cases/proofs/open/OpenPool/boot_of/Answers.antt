use Rattle.std.proofs.Common.{◌∙◌, sym}
use Rattle.pool_cases.proofs.Driving.{has_daemon}
use Rattle.pool_cases.proofs.open.OpenPool.boot_of.Goals as goal

pub boot-requires : goal.boot-requires
boot-requires c =
    has_daemon c.args.who c.machines.result c.self.inside.rolls c.self.inside.pool c.self.invariant
    c.machines.ensures (sym c.is_of.ensures ∙ c.if-is_of.true)
