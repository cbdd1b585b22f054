use Rattle.pool_config.specs.LinesSoFar.{lines_so_far}
use Rattle.pool_config.proofs.Readings.{line_set, line_bad}
use Rattle.pool_config.proofs.file.Reading.read_line.Goals as goal

pub returns-in-Some : goal.returns-in-Some
returns-in-Some c =
    line_set (lines_so_far c.args.self.now) (lines_so_far c.read_setting.new.self) c.args.line.now c.as_str.result.now c.setting_in.result c.in-Some.name c.in-Some.value c.read_setting.result c.setting_in.ensures c.as_str.ensures c.in-Some.is c.read_setting.ensures

pub returns-in-None : goal.returns-in-None
returns-in-None c = line_bad (lines_so_far c.args.self.now) c.args.line.now c.as_str.result.now c.setting_in.result c.setting_in.ensures c.as_str.ensures c.in-None.is
