use Rattle.std.proofs.Common.{rules}
use Rattle.submit_file.specs.OneJob.{common}
use Rattle.submit_file.proofs.Readings.{next_line, last_line, lines_err}
use Rattle.submit_file.proofs.file.FileSoFar.read_lines.Goals as goal

pub loop-line-preserved : goal.loop-line-preserved
loop-line-preserved c = λ rest r more. c.loop-line.invariant rest r (next_line (common c.args.heading) c.loop-line.self c.read.new.self c.args.lines.now c.loop-line.line-index c.line-item.result (search rules) c.line-item.is c.in-Ok.ensures rest r more)

pub returns : goal.returns
returns c = λ rest r more. c.loop-line.invariant rest r (last_line (common c.args.heading) c.loop-line.self c.args.lines.now c.loop-line.line-index (search rules) rest r more)

pub returns-in-Err : goal.returns-in-Err
returns-in-Err c = lines_err (common c.args.heading) c.args.self.now c.loop-line.self c.read.new.self c.read.new.self c.args.lines.now c.loop-line.line-index c.line-item.result c.in-Err.error (search rules) c.line-item.is c.loop-line.invariant c.in-Err.ensures
