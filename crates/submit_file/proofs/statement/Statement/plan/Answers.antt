use Rattle.std.proofs.Common.{ap}
use Rattle.submit_file.specs.Origins.{origin_of}
use Rattle.submit_file.proofs.statement.Statement.plan.Goals as goal

pub returns-clause-plan : goal.returns-clause-plan
returns-clause-plan c = λ t spares. record {
  owner_is = ap origin_of c.in_ok-owner.ensures.source;
  owner = c.in_ok-owner.ensures.part t spares;
  parts_are = c.in_ok-add_parts.ensures.sources;
  parts = c.in_ok-add_parts.ensures.parts t spares;
}
