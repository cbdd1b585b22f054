-- What is under a name stands at the name's place.
use Rattle.std.proofs.Common.{ap, sym, ◌∙◌}
use Rattle.std.specs.Option.{option_map}
use Rattle.ad_tree.specs.Tree.{tree}
use Rattle.ad_tree.proofs.PlacesLemmas.{lookup-place, lookup-no_place}
use Rattle.ad_tree.proofs.ad.Ad.get.Goals as goal

pub returns-in_err-place : goal.returns-in_err-place
returns-in_err-place c =
    ap (option_map (λ e. tree e.now)) c.from_residual.ensures ∙ sym (lookup-no_place c.args.name.now c.args.self.now (sym c.in_err-place.ensures))

pub returns-in_err-expr : goal.returns-in_err-expr
returns-in_err-expr c =
    let found = lookup-place c.args.name.now c.args.self.now c.in_ok-place.place (sym c.in_ok-place.ensures) in
    ap (option_map (λ e. tree e.now)) c.from_residual-in_err-expr.ensures ∙ sym (found ∙ ap (option_map (λ a. a.1)) (sym c.in_err-expr.ensures))

pub returns : goal.returns
returns c =
    let found = lookup-place c.args.name.now c.args.self.now c.in_ok-place.place (sym c.in_ok-place.ensures) in
    sym (found ∙ ap (option_map (λ a. a.1)) (sym c.in_ok-expr.ensures))
