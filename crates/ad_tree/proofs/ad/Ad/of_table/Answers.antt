-- All of the table is shown.
use Rattle.std.proofs.Common.{◌≡◌, ap, sym, ◌∙◌, subst, length, arith}
use Rattle.std.specs.List.{range_with_len}
use Rattle.ad_tree.specs.Ad.{AreDistinct}
use Rattle.ad_tree.specs.Places.{attributes_at}
use Rattle.ad_tree.proofs.PlacesLemmas.{IsAdOver-all, attributes_at-all}
use Rattle.ad_tree.proofs.ad.Ad.of_table.Goals as goal

pub invariant_of-result : goal.invariant_of-result
invariant_of-result c =
    let shared = c.in_ok-shared.shared in
    let same : length shared ≡ length c.args.table = ap length c.in_ok-shared.ensures in
    IsAdOver-all shared c.len.result c.in_ok-places.places.items (subst AreDistinct (sym c.in_ok-shared.ensures) c.len.ensures.distinct) (omega (arith, same, c.len.ensures.len, c.len.ensures.within)) (c.len.ensures.len ∙ sym same) c.in_ok-places.ensures

pub returns : goal.returns
returns c =
    let shared = c.in_ok-shared.shared in
    ap (attributes_at shared) (c.in_ok-places.ensures ∙ ap (range_with_len 0) (c.len.ensures.len ∙ sym (ap length c.in_ok-shared.ensures)))
    ∙ attributes_at-all shared
    ∙ c.in_ok-shared.ensures
