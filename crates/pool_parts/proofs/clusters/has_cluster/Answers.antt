use Rattle.std.proofs.Common.{Some, None, sym, ◌∙◌}
use Rattle.pool_parts.proofs.InClusters.{above_tells, first_is_there}
use Rattle.pool_parts.proofs.clusters.has_cluster.Goals as goal

pub returns-then-has_key : goal.returns-then-has_key
returns-then-has_key c = sym (first_is_there c.args.cluster c.args.queue.now (sym c.has_key.ensures.there ∙ c.if-has_key.true))

pub returns-in-Some : goal.returns-in-Some
returns-in-Some c =
    c.is_of_cluster.ensures
    ∙ sym (above_tells c.args.cluster c.args.queue.now (Some c.in-Some.key.now) c.has_key.ensures.ordered (sym c.has_key.ensures.there ∙ c.if-has_key.false) c.in-Some.ensures)

pub returns-in-None : goal.returns-in-None
returns-in-None c = sym (above_tells c.args.cluster c.args.queue.now None c.has_key.ensures.ordered (sym c.has_key.ensures.there ∙ c.if-has_key.false) c.in-None.ensures)
