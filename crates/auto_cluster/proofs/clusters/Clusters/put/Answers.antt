use Rattle.std.proofs.Common.{◌≡◌, ◌++◌, ◌∷◌, [], List, length, refl, ap, sym, ◌∙◌, subst}
use Rattle.std.specs.Prelude.{◌≢◌, Contains}
use Rattle.std.specs.List.{All}
use Rattle.ad_tree.specs.Ad.{Attributes}
use Rattle.auto_cluster.specs.Clustering.{Clustering, AreClusters, AreLinksOf}
use Rattle.auto_cluster.specs.Finding.{part_digest, places_under, AreFoundBy}
use Rattle.auto_cluster.proofs.Named.{one_cluster}
use Rattle.auto_cluster.proofs.Found.{found_more, place_at}
use Rattle.auto_cluster.proofs.Under.{found_still}
use Rattle.auto_cluster.proofs.clusters.Clusters.put.Goals as goal

pub invariant_of-self-2 : goal.invariant_of-self-2
invariant_of-self-2 c =
    let parts = c.self.inside.parts.items in
    let part = c.args.part in
    let after : c.push.new.self.items ≡ parts ++ part ∷ [] = rw (c.push.ensures.items, c.unwrap.ensures, c.in_ok-reserve.ensures.items) refl in
    let differ : All (λ (p : Attributes). p ≢ part) parts = subst (λ (v : Clustering). All (λ (p : Attributes). p ≢ part) v.parts) (sym c.self.view_is) c.requires in
    let put : Contains (places_under c.put_under.new.places (part_digest part)) (length parts) =
    place_at c.put_under.new.places c.part_digest.result (part_digest part) c.len-place.result (length parts) c.part_digest.ensures (c.len-place.ensures ∙ ap (λ (v : Clustering). length v.parts) (sym c.self.view_is)) c.in_ok-put_under.ensures.put in (
      one_cluster parts c.push.new.self.items part c.self.invariant.0 differ after,
      c.self.invariant.1,
      subst (λ (ps : List Attributes). AreFoundBy c.put_under.new.places ps) (sym after)
          (found_more c.self.inside.places c.put_under.new.places parts part c.self.invariant.2 c.put_under.ensures.others put),
    )

pub invariant_of-self : goal.invariant_of-self
invariant_of-self c =
    subst (λ (ps : List Attributes). AreClusters ps × AreLinksOf c.self.inside.slots c.self.inside.links.items × AreFoundBy c.self.inside.places ps)
    (sym c.in_err-reserve.ensures.items) c.self.invariant

pub invariant_of-self-in_err-put_under : goal.invariant_of-self-in_err-put_under
invariant_of-self-in_err-put_under c =
    subst (λ (ps : List Attributes). AreClusters ps × AreLinksOf c.self.inside.slots c.self.inside.links.items × AreFoundBy c.put_under.new.places ps)
    (sym c.in_ok-reserve.ensures.items)
    (c.self.invariant.0, c.self.invariant.1, found_still c.self.inside.places c.put_under.new.places c.self.inside.parts.items c.self.invariant.2 c.put_under.ensures.others)

pub returns-clause-put : goal.returns-clause-put
returns-clause-put c =
    ap (λ (ps : List Attributes). record { slots = c.self.inside.slots; parts = ps }) (rw (c.push.ensures.items, c.unwrap.ensures, c.in_ok-reserve.ensures.items) refl)
    ∙ ap (λ (k : Clustering). record { slots = k.slots; parts = k.parts ++ c.args.part ∷ [] }) c.self.view_is
