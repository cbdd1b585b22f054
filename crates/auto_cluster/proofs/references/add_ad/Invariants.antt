use Rattle.std.proofs.Common.{take}
use Rattle.auto_cluster.specs.Links.{HasLinks}
use Rattle.auto_cluster.specs.Significant.{leads_to}
use Rattle.auto_cluster.proofs.references.add_ad.Given as goal

abbrev pub invariant-loop-place : goal.invariant-loop-place
invariant-loop-place l = HasLinks l.fn.list.items l.list.items (λ y z. leads_to y z (take l.place l.ad))
