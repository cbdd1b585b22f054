use Rattle.std.proofs.Common.{◌∙◌, ap, ◌++◌, ◌∷◌, []}
use Rattle.thin_pool.proofs.Idle.{copied_slot_ad}
use Rattle.thin_pool.proofs.slot.slot_ads.Goals as goal

pub loop-slot-preserved : goal.loop-slot-preserved
loop-slot-preserved c =
    let put = c.in_ok-push.ensures.ok ∙ ap (λ ad. c.loop-slot.ads ++ ad ∷ []) c.in_ok-copy.ensures in
    copied_slot_ad c.args.slots.now c.loop-slot.slot-index c.slot-item.result c.loop-slot.ads c.push.new.self c.loop-slot-test.true c.slot-item.is c.loop-slot.invariant put
