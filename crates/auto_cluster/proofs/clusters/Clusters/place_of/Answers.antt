use Rattle.std.proofs.Common.{ap}
use Rattle.auto_cluster.proofs.Found.{answered}
use Rattle.auto_cluster.proofs.clusters.Clusters.place_of.Goals as goal

pub returns : goal.returns
returns c =
    answered c.self.inside.places c.self.inside.parts.items _ _ c.args.part.now c.part_digest.result _ c.place_among.result c.self.invariant.2 c.deref.ensures.value
    (ap (λ v. v.parts) c.self.view_is) c.part_digest.ensures c.places_under-places.ensures c.place_among.ensures
