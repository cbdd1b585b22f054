-- A copy has the places and shares the table.
use Rattle.std.proofs.Common.{◌≡◌, ap, ◌∙◌}
use Rattle.std.specs.List.{each_same}
use Rattle.ad_tree.specs.Places.{attributes_at}
use Rattle.ad_tree.proofs.PlacesLemmas.{IsAdOver-same}
use Rattle.ad_tree.proofs.ad.AdCopied.copy.Goals as goal

pub returns : goal.returns
returns c =
    let places : c.in_ok-clone.field-0.items ≡ c.self.inside.places.items = each_same _ _ c.in_ok-clone.ensures.cases.0 in
    ap (λ t. attributes_at t c.in_ok-clone.field-0.items) c.in_ok-copy.ensures ∙ ap (attributes_at c.self.inside.table) places ∙ c.self.view_is

pub invariant_of-result : goal.invariant_of-result
invariant_of-result c =
    let places : c.in_ok-clone.field-0.items ≡ c.self.inside.places.items = each_same _ _ c.in_ok-clone.ensures.cases.0 in
    IsAdOver-same _ _ _ _ c.in_ok-copy.ensures places c.self.invariant
