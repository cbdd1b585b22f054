use Rattle.std.proofs.Common.{sym, subst}
use Rattle.submit_file.specs.Plans.{ArePartsFor}
use Rattle.submit_file.proofs.statement.Statement.add_parts.Goals as goal

pub returns-clause-parts : goal.returns-clause-parts
returns-clause-parts c = λ t spares. c.in_ok-add_lines.ensures.parts t spares (c.in_ok-add_commands.ensures.parts t spares (subst (ArePartsFor c.args.self t) (sym c.requires) tt))
