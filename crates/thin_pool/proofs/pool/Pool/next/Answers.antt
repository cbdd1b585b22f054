use Rattle.std.proofs.Common.{◌∙◌}
use Rattle.thin_pool.proofs.Resting.{may_close}
use Rattle.thin_pool.proofs.pool.Pool.next.Goals as goal

pub returns-in-Ok : goal.returns-in-Ok
returns-in-Ok c =
    let found = rw c.in-Ok.is at c.in_ok-none.ensures in
    may_close c.args.self.now c.in-Ok.none c.args.reading c.requires (found.0 ∙ c.in_ok-jobs.ensures) (found.1 ∙ c.in_ok-slots.ensures) found.2
