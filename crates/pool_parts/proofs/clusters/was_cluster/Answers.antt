use Rattle.std.proofs.Common.{Some, None, sym, ◌∙◌}
use Rattle.pool_parts.proofs.InClusters.{entries_tell}
use Rattle.pool_parts.proofs.clusters.was_cluster.Goals as goal

pub returns-in-Some : goal.returns-in-Some
returns-in-Some c =
    c.is_of_cluster.ensures
    ∙ sym (entries_tell c.args.cluster c.args.finished.now (Some (c.in-Some.key.now, c.in-Some.field-0-1.now)) c.first_past.ensures.sorted c.in-Some.ensures.first)

pub returns-in-None : goal.returns-in-None
returns-in-None c = sym (entries_tell c.args.cluster c.args.finished.now None c.first_past.ensures.sorted c.in-None.ensures.first)
