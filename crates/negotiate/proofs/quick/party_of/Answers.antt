use Rattle.std.proofs.Common.{ℕ, ◌∙◌, refl, ap, List, subst}
use Rattle.ad_tree.specs.Ad.{Attributes}
use Rattle.auto_cluster.specs.Clustering.{Clustering}
use Rattle.negotiate.specs.Parties.{AreUnmade, IsClustered}
use Rattle.negotiate.proofs.quick.party_of.Goals as goal

pub all_clustered-requires : goal.all_clustered-requires
all_clustered-requires c = ap (λ (k : Clustering). k.parts) c.clear.ensures

pub returns-clause-party : goal.returns-clause-party
returns-clause-party c = record {
  account = refl;
  left = c.in_ok-left.ensures.same;
  clustering = c.all_clustered.new.clusters;
  clustered = subst (λ (s : List Attributes). IsClustered s c.in_ok-left.left.items c.all_clustered.new.clusters) (ap (λ (k : Clustering). k.slots) c.clear.ensures) c.in_ok-left.ensures.clustered;
  lists = subst (λ (n : ℕ). AreUnmade c.in_ok-lists.lists.items n) c.len.ensures c.in_ok-lists.ensures;
}

pub returns-clause-slots : goal.returns-clause-slots
returns-clause-slots c = c.in_ok-left.ensures.clustered.of_slots ∙ ap (λ (k : Clustering). k.slots) c.clear.ensures
