use Rattle.std.proofs.Common.{sym, ◌∙◌}
use Rattle.pool_config.specs.Configuration.{outcome}
use Rattle.pool_config.specs.LinesSoFar.{lines_so_far}
use Rattle.pool_config.proofs.Readings.{end_read, end_bad}
use Rattle.pool_config.proofs.file.Reading.into_config.Goals as goal

pub returns-then-has_machine : goal.returns-then-has_machine
returns-then-has_machine c = end_read (lines_so_far c.args.self) (outcome c.into_config.result) (sym c.has_machine.ensures ∙ c.if-has_machine.true) c.into_config.ensures

pub returns : goal.returns
returns c = end_bad (lines_so_far c.args.self) (sym c.has_machine.ensures ∙ c.if-has_machine.false)
