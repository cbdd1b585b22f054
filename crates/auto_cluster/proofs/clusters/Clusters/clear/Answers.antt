use Rattle.std.proofs.Common.{[], List, ap, ◌∙◌}
use Rattle.ad_tree.specs.Ad.{Attributes}
use Rattle.auto_cluster.specs.Clustering.{Clustering}
use Rattle.auto_cluster.proofs.Found.{none_found}
use Rattle.auto_cluster.proofs.Named.{none_apart}
use Rattle.auto_cluster.proofs.clusters.Clusters.clear.Goals as goal

pub returns : goal.returns
returns c =
    ap (λ (ps : List Attributes). record { slots = c.self.inside.slots; parts = ps }) c.clear.ensures.items
    ∙ ap (λ (k : Clustering). record { slots = k.slots; parts = [] }) c.self.view_is

pub invariant_of-self : goal.invariant_of-self
invariant_of-self c = (none_apart c.clear.new.self.items c.clear.ensures.items, c.self.invariant.1, none_found c.clear-2.new.self c.clear.new.self.items c.clear.ensures.items)
