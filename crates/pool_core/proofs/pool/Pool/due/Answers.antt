use Rattle.std.proofs.Common.{◌≡◌, true, subst}
use Rattle.pool_state.specs.declared.state.PoolState.{PoolState}
use Rattle.pool_state.specs.Readings.{IsDue}
use Rattle.pool_core.proofs.Resting.{due_back}
use Rattle.pool_core.proofs.pool.Pool.due.Goals as goal

pub returns-clause-due : goal.returns-clause-due
returns-clause-due c =
    subst (λ (t : PoolState). IsDue c.args.who t c.args.reading → c.due.result ≡ true) c.self.view_is (λ due. c.due.ensures.due c.self.invariant.kept.passed (due_back c.args.who c.self.inside.state c.args.reading due))
