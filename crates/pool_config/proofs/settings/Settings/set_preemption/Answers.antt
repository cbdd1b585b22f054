use Rattle.pool_config.specs.Settings.{expression_in, with_config}
use Rattle.pool_config.specs.SoFar.{so_far}
use Rattle.pool_config.proofs.Becoming.{value_becomes}
use Rattle.pool_config.proofs.settings.Settings.set_preemption.Goals as goal

pub returns : goal.returns
returns c =
    let s = so_far c.args.self.now in
    value_becomes (λ e. with_config (record s.config { preemption_requirements = e }) s) _ c.args.line c.set_expression.result (expression_in c.args.text.now) c.set_expression.ensures
