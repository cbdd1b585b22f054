use Rattle.std.proofs.Common.{◌∙◌}
use Rattle.pool_state.specs.Copies.{pool_with}
use Rattle.pool_state.proofs.copy.PoolStateCopied.copy.Goals as goal

pub returns : goal.returns
returns c = c.join.ensures ∙ (λ i. pool_with (c.in_ok-tables.ensures i) (c.in_ok-actors.ensures i) (c.in_ok-jobs.ensures i) (c.in_ok-marks.ensures i) c.args.self.now)
