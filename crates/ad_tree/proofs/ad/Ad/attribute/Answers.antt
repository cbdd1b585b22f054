-- The attribute at a place is that at its place in the table.
use Rattle.std.proofs.Common.{ap, sym, ◌∙◌, slice_get}
use Rattle.ad_tree.proofs.PlacesLemmas.{slice_get-attributes_at}
use Rattle.ad_tree.proofs.ad.Ad.attribute.Goals as goal

pub returns : goal.returns
returns c =
    let i = c.args.place in
    c.attribute.ensures
    ∙ slice_get-attributes_at c.self.inside.table c.self.inside.places.items i c.in_ok-place.place c.self.invariant.0.0 (sym (c.in_ok-place.ensures ∙ ap (λ l. slice_get l i) c.as_slice.ensures.value))
    ∙ ap (λ ad. slice_get ad i) c.self.view_is
