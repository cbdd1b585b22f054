-- The place of the name is gone, and the rest keeps its order.
use Rattle.std.proofs.Common.{◌≡◌, ap, sym, ◌∙◌, subst, is_some, Some, true, false}
use Rattle.ad_tree.specs.Ad.{place_of, without}
use Rattle.ad_tree.specs.Places.{attributes_at, IsAdOver}
use Rattle.ad_tree.proofs.PlacesLemmas.{IsAdOver-remove, IsSome-lookup, attributes_at-without, without-no_place}
use Rattle.ad_tree.proofs.ad.Ad.remove.Goals as goal

pub invariant_of-self : goal.invariant_of-self
invariant_of-self c =
    let name = c.args.name.now in
    let table = c.self.inside.table in
    let at : place_of name (attributes_at table c.self.inside.places.items) ≡ Some c.in-Some.place = ap (place_of name) c.self.view_is ∙ sym c.in-Some.ensures in
    subst (IsAdOver table) (sym c.remove.ensures.items) (IsAdOver-remove name table c.self.inside.places.items c.in-Some.place c.self.invariant at)

pub returns-in-Some-clause-found : goal.returns-in-Some-clause-found
returns-in-Some-clause-found c = IsSome-lookup c.args.name.now c.args.self.now true (ap is_some c.in-Some.ensures)

pub returns-in-Some-clause-rest : goal.returns-in-Some-clause-rest
returns-in-Some-clause-rest c =
    let name = c.args.name.now in
    let table = c.self.inside.table in
    let at : place_of name (attributes_at table c.self.inside.places.items) ≡ Some c.in-Some.place = ap (place_of name) c.self.view_is ∙ sym c.in-Some.ensures in
    ap (attributes_at table) c.remove.ensures.items ∙ attributes_at-without name table c.self.inside.places.items c.in-Some.place at ∙ ap (without name) c.self.view_is

pub returns-in-None-clause-found : goal.returns-in-None-clause-found
returns-in-None-clause-found c = IsSome-lookup c.args.name.now c.args.self.now false (ap is_some c.in-None.ensures)

pub returns-in-None-clause-rest : goal.returns-in-None-clause-rest
returns-in-None-clause-rest c = sym (without-no_place c.args.name.now c.args.self.now (sym c.in-None.ensures))
