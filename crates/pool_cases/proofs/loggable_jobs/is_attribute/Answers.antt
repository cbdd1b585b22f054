use Rattle.std.proofs.Common.{refl}
use Rattle.ad_tree.specs.Tree.{tree}
use Rattle.pool_cases.proofs.Logging.{printable_there}
use Rattle.pool_cases.proofs.loggable_jobs.is_attribute.Goals as goal

pub returns-then-has_at : goal.returns-then-has_at
returns-then-has_at c = λ yes prints.
    printable_there c.args.sample.now c.args.place (c.args.name.now, tree c.args.expr.now) prints (c.if-has_at.ensures refl)
