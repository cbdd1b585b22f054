use Rattle.std.proofs.Common.{codes}
use Rattle.clap.specs.Lexer.{usize_max}
use Rattle.pool_input.proofs.Building.{many_rule}
use Rattle.pool_input.proofs.command.submit_argument.Goals as goal

pub returns-clause-rule : goal.returns-clause-rule
returns-clause-rule c = many_rule (codes "SUBMIT") _ (record { start_inclusive = 0; end_inclusive = usize_max }) c.new.result c.num_args.result c.help.result c.new.ensures.rule c.num_args.ensures c.help.ensures
