-- The place of a name is that of its place in the table.
use Rattle.std.proofs.Common.{◌≡◌, ap, sym, ◌∙◌, length, arith, position, ◌==◌}
use Rattle.ad_tree.specs.Ad.{place_of}
use Rattle.ad_tree.proofs.PlacesLemmas.{place_of-attributes_at, place_of-attributes_at-absent, attributes_at-whole}
use Rattle.ad_tree.proofs.ad.Ad.place.Goals as goal

pub returns-in_err-place : goal.returns-in_err-place
returns-in_err-place c =
    let name = c.args.name.now in
    c.from_residual.ensures
    ∙ sym (place_of-attributes_at-absent name c.self.inside.table c.self.inside.places.items c.self.invariant (sym c.in_err-place.ensures))
    ∙ ap (place_of name) c.self.view_is

pub returns : goal.returns
returns c =
    let name = c.args.name.now in
    c.own_place.ensures
    ∙ ap (position (λ k. k == c.in_ok-place.place)) c.as_slice.ensures.value
    ∙ place_of-attributes_at name c.self.inside.table c.self.inside.places.items c.in_ok-place.place c.self.invariant (sym c.in_ok-place.ensures)
    ∙ ap (place_of name) c.self.view_is

pub returns-then-len : goal.returns-then-len
returns-then-len c =
    let same : length c.self.inside.places.items ≡ length c.self.inside.table = omega (arith, c.len.ensures, c.len-2.ensures, c.if-len.true) in
    c.in_ok-place.ensures ∙ ap (place_of c.args.name.now) (sym (attributes_at-whole c.self.inside.table c.self.inside.places.items c.self.invariant same) ∙ c.self.view_is)
