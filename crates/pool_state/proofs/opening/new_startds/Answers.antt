use Rattle.std.proofs.Common.{◌+◌, ◌++◌, ◌∷◌, List, ap, drop, sym, ◌∙◌}
use Rattle.std.proofs.lemmas.List.{at_drop_all, at_drop_more}
use Rattle.pool_mail.specs.declared.slot_ad.SlotAd.{SlotAd}
use Rattle.pool_state.specs.Openings.{startds_from}
use Rattle.pool_state.proofs.opening.new_startds.Goals as goal

pub loop-slot-preserved : goal.loop-slot-preserved
loop-slot-preserved c =
    let slots = c.args.slots.now in
    let i = c.loop-slot.slot-index in
    let rest = drop (i + 1) slots in
    let all = λ (l : List SlotAd). c.loop-slot.startds.items ++ startds_from c.args.machinery c.loop-slot.last l in
    (c.in_ok-put_slot.ensures.startds rest ∙ ap (λ (x : SlotAd). all (x ∷ rest)) c.slot-item.is ∙ sym (at_drop_more all slots i c.slot-item.result c.loop-slot-test.true) ∙ c.loop-slot.invariant.0, c.in_ok-put_slot.ensures.machine)

pub returns : goal.returns
returns c =
    let all = λ (l : List SlotAd). c.loop-slot.startds.items ++ startds_from c.args.machinery c.loop-slot.last l in
    c.in_ok-push.ensures.items ∙ sym (at_drop_all all c.args.slots.now c.loop-slot.slot-index c.loop-slot-test.false) ∙ c.loop-slot.invariant.0
