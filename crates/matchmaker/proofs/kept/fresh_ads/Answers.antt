use Rattle.std.proofs.Common.{◌∙◌, ap}
use Rattle.std.proofs.lemmas.List.{take_all}
use Rattle.matchmaker.specs.Kept.{fresh_ads}
use Rattle.matchmaker.proofs.Fresh.{fresh_more, old_more}
use Rattle.matchmaker.proofs.kept.fresh_ads.Goals as goal
use Rattle.matchmaker.proofs.kept.fresh_ads.Goals.{then-is_fresh+in_ok-copy+in_ok-push, else-is_fresh}

pub loop-one-preserved : goal.loop-one-preserved
loop-one-preserved c = elim c.if-is_fresh.branch [
  | then-is_fresh+in_ok-copy+in_ok-push w ↦ fresh_more c.args.lifetime c.args.now c.args.kept.now c.loop-one.one-index c.one-item.result w.in_ok-copy.field-0 c.loop-one.ads c.if-is_fresh.ads c.is_fresh.result
      c.loop-one-test.true c.one-item.is c.is_fresh.ensures w.if-is_fresh.true w.in_ok-copy.ensures c.loop-one.invariant (w.ads-is ∙ w.in_ok-push.ensures.ok)
  | else-is_fresh w ↦ old_more c.args.lifetime c.args.now c.args.kept.now c.loop-one.one-index c.one-item.result c.loop-one.ads c.if-is_fresh.ads c.is_fresh.result
      c.loop-one-test.true c.one-item.is c.is_fresh.ensures w.if-is_fresh.false c.loop-one.invariant w.ads-is
]

pub returns : goal.returns
returns c = c.loop-one.invariant ∙ ap (fresh_ads c.args.lifetime c.args.now) (take_all c.loop-one.one-index c.args.kept.now c.loop-one-test.false)
