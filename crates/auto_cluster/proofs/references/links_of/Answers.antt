use Rattle.std.proofs.Common.{List, ap, ◌∙◌, subst}
use Rattle.std.proofs.lemmas.List.{take_all}
use Rattle.ad_tree.specs.Ad.{Attributes}
use Rattle.auto_cluster.specs.Clustering.{AreLinksOf}
use Rattle.auto_cluster.specs.Links.{is_linked}
use Rattle.auto_cluster.specs.declared.links.Link.{Link}
use Rattle.auto_cluster.proofs.LinkLemmas.{ads_more}
use Rattle.auto_cluster.proofs.references.links_of.Goals as goal

pub loop-ad-init : goal.loop-ad-init
loop-ad-init c = λ x y. ap (λ (ls : List Link). is_linked ls x y) c.new-list.ensures.items

pub loop-ad-preserved : goal.loop-ad-preserved
loop-ad-preserved c =
    ads_more c.loop-ad.list.items c.add_ad.new.list.items c.as_slice-ad-items.result.now c.loop-ad.ad-index c.ad-item.result c.ad-item.result
    c.loop-ad-test.true c.ad-item.is c.loop-ad.invariant c.in_ok-add_ad.ensures

pub returns : goal.returns
returns c =
    subst (λ (ads : List Attributes). AreLinksOf ads c.loop-ad.list.items)
    (take_all c.loop-ad.ad-index c.as_slice-ad-items.result.now c.loop-ad-test.false ∙ c.as_slice-ad-items.ensures) c.loop-ad.invariant
