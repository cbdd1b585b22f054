use Rattle.std.proofs.Common.{◌∙◌}
use Rattle.pool_config.specs.Configuration.{outcome}
use Rattle.pool_config.specs.LinesSoFar.{lines_so_far}
use Rattle.pool_config.proofs.Readings.{all_read, all_refused}
use Rattle.pool_config.proofs.file.configuration_in.Goals as goal

pub returns-in-Ok : goal.returns-in-Ok
returns-in-Ok c =
    all_read c.args.text.now (lines_so_far c.in_ok-reading.reading) (lines_so_far c.read_lines.new.self) c.as_slice.result.now (outcome c.into_config.result) (c.as_slice.ensures ∙ c.in_ok-lines.ensures) c.in_ok-reading.ensures c.in-Ok.ensures c.into_config.ensures

pub returns : goal.returns
returns c =
    all_refused c.args.text.now (lines_so_far c.in_ok-reading.reading) c.as_slice.result.now c.in-Err.error (c.as_slice.ensures ∙ c.in_ok-lines.ensures) c.in_ok-reading.ensures c.in-Err.ensures
