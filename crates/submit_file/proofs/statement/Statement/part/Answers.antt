use Rattle.std.proofs.Common.{sym, subst}
use Rattle.submit_file.specs.Origins.{origin_of}
use Rattle.submit_file.specs.Plans.{IsFixedFor}
use Rattle.submit_file.proofs.Takings.{fixed_spared}
use Rattle.submit_file.proofs.statement.Statement.part.Goals as goal

pub returns-clause-part : goal.returns-clause-part
returns-clause-part c = λ t spares.
    subst (IsFixedFor c.args.self t (origin_of c.args.source)) (sym c.value-fixed.ensures) (fixed_spared c.args.self c.args.table.now t (origin_of c.args.source) _ spares c.in_ok-contribution.ensures)
