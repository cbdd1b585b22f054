use Rattle.std.proofs.Common.{◌≡◌, ◌<◌, ◌++◌, ap, ◌∙◌, length, List}
use Rattle.startd_slot.specs.declared.slot.Slot.{Slot}
use Rattle.pool_shown.specs.Slots.{ads_of}
use Rattle.pool_shown.proofs.AdsInOrder.{next_startd}
use Rattle.pool_shown.proofs.ads.ads_after_all.Goals as goal

pub loop-startd-preserved : goal.loop-startd-preserved
loop-startd-preserved c =
    let inside : c.loop-startd.startd-index < length c.args.startds.now = c.loop-startd-test.true in
    let here : c.loop-startd.left.now ≡ ads_of c.startd-item.result.slots ++ c.in-Some.rest.now =
    c.in-Some.ensures ∙ ap (λ (slots : List Slot). ads_of slots ++ c.in-Some.rest.now) c.slots.ensures in
    next_startd c.args.startds.now c.loop-startd.startd-index c.startd-item.result c.args.ads.now c.loop-startd.left.now c.in-Some.rest.now
    inside c.startd-item.is c.loop-startd.invariant here
