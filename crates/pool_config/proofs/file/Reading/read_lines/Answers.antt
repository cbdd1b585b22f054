use Rattle.std.proofs.Common.{rules}
use Rattle.pool_config.specs.LinesSoFar.{lines_so_far}
use Rattle.pool_config.proofs.Readings.{next_line, lines_err}
use Rattle.pool_config.proofs.file.Reading.read_lines.Goals as goal

pub loop-line-preserved : goal.loop-line-preserved
loop-line-preserved c = λ rest q more. c.loop-line.invariant rest q (next_line (lines_so_far c.loop-line.self) (lines_so_far c.read_line.new.self) c.args.lines.now c.loop-line.line-index c.line-item.result (search rules) c.line-item.is c.in-Ok.ensures rest q more)

pub returns-in-Err : goal.returns-in-Err
returns-in-Err c = lines_err (lines_so_far c.args.self.now) (lines_so_far c.loop-line.self) c.args.lines.now c.loop-line.line-index c.line-item.result c.in-Err.error (search rules) c.line-item.is c.loop-line.invariant c.in-Err.ensures
