use Rattle.std.proofs.Common.{◌≡◌, true}
use Rattle.schedd_state.specs.DueChecks.{is_check_due}
use Rattle.pool_state.proofs.Outcomes.{there_is}
use Rattle.pool_state.proofs.state.PoolState.is_some_check_due.Goals as goal

pub returns-clause-only : goal.returns-clause-only
returns-clause-only c =
    let s = c.args.self.now in
    there_is (λ job. is_check_due s.schedd s.queue job c.args.reading ≡ true) c.first_check.result c.is_some.result c.is_some.ensures c.first_check.ensures.due
