use Rattle.std.proofs.Common.{List, ap}
use Rattle.ad_tree.specs.Ad.{Attributes}
use Rattle.auto_cluster.proofs.Found.{none_found}
use Rattle.auto_cluster.proofs.Named.{none_apart}
use Rattle.auto_cluster.proofs.clusters.Clusters.new.Goals as goal

pub invariant_of-result : goal.invariant_of-result
invariant_of-result c = (none_apart c.new.result.items c.new.ensures.items, c.in_ok-links.ensures, none_found c.new-2.result c.new.result.items c.new.ensures.items)

pub returns : goal.returns
returns c = ap (λ (ps : List Attributes). record { slots = c.args.slots; parts = ps }) c.new.ensures.items
