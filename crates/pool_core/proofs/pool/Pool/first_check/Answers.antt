use Rattle.std.proofs.Common.{◌≡◌, true, subst}
use Rattle.pool_state.specs.declared.state.PoolState.{PoolState}
use Rattle.pool_state.specs.Readings.{is_schedd_up}
use Rattle.schedd_state.specs.DueChecks.{IsFirstDue}
use Rattle.pool_core.proofs.pool.Pool.first_check.Goals as goal

pub returns-clause-first : goal.returns-clause-first
returns-clause-first c =
    subst (λ (t : PoolState). is_schedd_up t ≡ true → IsFirstDue t.schedd t.queue c.args.reading c.first_check.result) c.self.view_is (c.first_check.ensures.first c.self.invariant.kept.passed)
