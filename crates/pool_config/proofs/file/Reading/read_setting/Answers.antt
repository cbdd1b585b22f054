use Rattle.pool_config.specs.LinesSoFar.{lines_so_far}
use Rattle.pool_config.proofs.Readings.{setting_known, setting_unknown}
use Rattle.pool_config.proofs.file.Reading.read_setting.Goals as goal

pub returns-in-Some : goal.returns-in-Some
returns-in-Some c =
    setting_known (lines_so_far c.args.self.now) (lines_so_far c.read_key.new.self) c.args.line c.args.name.now c.args.value.now c.key_of.result c.in-Some.key c.read_key.result c.key_of.ensures c.in-Some.is c.read_key.ensures

pub returns-in-None : goal.returns-in-None
returns-in-None c = setting_unknown (lines_so_far c.args.self.now) c.args.line c.args.name.now c.args.value.now c.key_of.result c.key_of.ensures c.in-None.is
