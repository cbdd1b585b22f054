-- An attribute more.
use Rattle.std.proofs.Common.{◌≡◌, ap, sym, ◌∙◌, length, take, arith}
use Rattle.std.proofs.lemmas.List.{length-take-le}
use Rattle.ad_tree.specs.Ad.{with_attribute}
use Rattle.ad_tree.specs.Tree.{tree}
use Rattle.ad_tree.proofs.PlacesLemmas.{built_more, not_past}
use Rattle.ad_tree.proofs.ad.Ad.alone_copy.Goals as goal
use Rattle.ad_tree.proofs.ad.Ad.alone_copy.Goals.{in-Some+in_ok-copy+in_ok-put, in_default}

pub put-requires : goal.put-requires
put-requires c =
    let long : length (take c.loop-place.place c.args.self.now) ≡ c.loop-place.place = length-take-le c.loop-place.place c.args.self.now (omega (arith, c.loop-place-test.true, c.len-place-end.ensures.len)) in
    record { room = λ h. absurd (omega (arith, h.1, ap length c.loop-place.invariant, long, c.loop-place-test.true, c.len-place-end.ensures.within)) }

pub loop-place-preserved : goal.loop-place-preserved
loop-place-preserved c = elim c.match-attribute.branch [
  | in-Some+in_ok-copy+in_ok-put w ↦ w.table-is
      ∙ w.in_ok-put.ensures.ok
      ∙ ap (λ e. with_attribute w.in-Some.name.now e c.loop-place.table) w.in_ok-copy.ensures
      ∙ built_more c.args.self.now c.loop-place.table c.loop-place.place (w.in-Some.name.now, tree w.in-Some.expr.now) c.len-place-end.ensures.distinct c.loop-place.invariant (sym w.in-Some.ensures)
  | in_default w ↦ absurd (not_past c.args.self.now c.loop-place.place (omega (arith, c.loop-place-test.true, c.len-place-end.ensures.len)) w.in_default.ensures)
]
