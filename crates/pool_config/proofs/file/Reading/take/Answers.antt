use Rattle.pool_config.specs.Keys.{sets_of}
use Rattle.pool_config.specs.LinesSoFar.{lines_so_far}
use Rattle.pool_config.proofs.Readings.{value_put, value_refused}
use Rattle.pool_config.proofs.file.Reading.take.Goals as goal

pub returns-in-Ok : goal.returns-in-Ok
returns-in-Ok c =
    value_put (lines_so_far c.args.self.now) (lines_so_far c.put.new.self) c.args.line (sets_of c.args.key) c.args.name.now c.args.value.now c.in-Ok.text c.as_str.result.now c.put.result c.in-Ok.ensures.ok c.as_str.ensures c.put.ensures

pub returns-in-Err : goal.returns-in-Err
returns-in-Err c =
    value_refused (lines_so_far c.args.self.now) c.args.line (sets_of c.args.key) c.args.name.now c.args.value.now c.in-Err.error c.macro_error.result c.in-Err.ensures.refused c.macro_error.ensures
