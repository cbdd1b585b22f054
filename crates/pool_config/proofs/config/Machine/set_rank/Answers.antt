use Rattle.pool_config.specs.Configuration.{machine_of}
use Rattle.pool_config.specs.Settings.{expression_in}
use Rattle.pool_config.proofs.Becoming.{value_becomes}
use Rattle.pool_config.proofs.config.Machine.set_rank.Goals as goal

pub returns : goal.returns
returns c =
    value_becomes (λ e. record (machine_of c.args.self.now) { rank = e }) _ c.args.line c.set_expression.result (expression_in c.args.text.now) c.set_expression.ensures
