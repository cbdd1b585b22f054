-- The places so far, with one more.
use Rattle.std.proofs.Common.{◌≡◌, ◌++◌, ◌∷◌, [], arith, ap, ◌∙◌}
use Rattle.std.specs.List.{range_with_len}
use Rattle.ad_tree.proofs.PlacesLemmas.{range_push}
use Rattle.ad_tree.proofs.places.all_places.Goals as goal

pub loop-place-preserved : goal.loop-place-preserved
loop-place-preserved c = c.in_ok-push.ensures.items ∙ ap (λ l. l ++ c.loop-place.place ∷ []) c.loop-place.invariant ∙ range_push c.loop-place.place

pub returns : goal.returns
returns c =
    let all : c.loop-place.place ≡ c.args.count = omega arith in
    c.loop-place.invariant ∙ ap (range_with_len 0) all
