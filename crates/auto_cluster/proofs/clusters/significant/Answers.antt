use Rattle.std.proofs.Common.{List, sym, subst, ◌∙◌}
use Rattle.auto_cluster.specs.Clustering.{AreLinksOf}
use Rattle.auto_cluster.specs.declared.links.Link.{Link}
use Rattle.auto_cluster.proofs.clusters.significant.Goals as goal

pub returns : goal.returns
returns c =
    let links = subst (λ (ls : List Link). AreLinksOf c.args.slots.now ls) (sym c.as_slice.ensures.value) c.in_ok-links.ensures in
    record { part = c.in_ok-part.part; of_job = c.in_ok-part.ensures c.args.slots.now links; are = c.from_vec.ensures ∙ c.in_ok-names_of.ensures }
