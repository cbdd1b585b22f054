use Rattle.std.proofs.Common.{◌≡◌, true, sym, ◌∙◌}
use Rattle.schedd_state.specs.DueChecks.{is_check_due}
use Rattle.pool_state.proofs.Outcomes.{also}
use Rattle.pool_state.proofs.state.PoolState.first_check.Goals as goal

pub returns-then-is_up-clause-due : goal.returns-then-is_up-clause-due
returns-then-is_up-clause-due c =
    let s = c.args.self.now in
    also (λ job. is_check_due s.schedd s.queue job c.args.reading ≡ true) c.first_check.result (sym c.is_up.ensures ∙ c.if-is_up.true) c.first_check.ensures.due

pub returns-then-is_up-clause-first : goal.returns-then-is_up-clause-first
returns-then-is_up-clause-first c = λ passed up. c.first_check.ensures.first passed
