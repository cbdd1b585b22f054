use Rattle.submit_lines.proofs.Readings.{read_is, refused_is}
use Rattle.submit_lines.proofs.expressions.expression.Goals as goal

pub returns-in-Ok : goal.returns-in-Ok
returns-in-Ok c = read_is c.args.text.now _ c.in-Ok.ensures.found

pub returns-in-Err : goal.returns-in-Err
returns-in-Err c = refused_is c.args.text.now c.in-Err.error _ c.of_parse.ensures c.in-Err.ensures.refused
