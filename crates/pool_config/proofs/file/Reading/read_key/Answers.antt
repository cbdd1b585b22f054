use Rattle.std.proofs.Common.{sym, ◌∙◌}
use Rattle.pool_config.specs.Keys.{sets_of}
use Rattle.pool_config.specs.LinesSoFar.{lines_so_far}
use Rattle.pool_config.proofs.Readings.{key_taken, key_homeless}
use Rattle.pool_config.proofs.file.Reading.read_key.Goals as goal

pub returns-then-is_homeless : goal.returns-then-is_homeless
returns-then-is_homeless c =
    key_homeless (lines_so_far c.args.self.now) c.args.line (sets_of c.args.key) c.args.name.now c.args.value.now (sym c.is_homeless.ensures ∙ c.if-is_homeless.true)

pub returns : goal.returns
returns c =
    key_taken (lines_so_far c.args.self.now) (lines_so_far c.take.new.self) c.args.line (sets_of c.args.key) c.args.name.now c.args.value.now c.take.result (sym c.is_homeless.ensures ∙ c.if-is_homeless.false) c.take.ensures
