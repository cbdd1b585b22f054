use Rattle.std.proofs.Common.{ap, sym, ◌∙◌, ◌+◌, [], ◌∷◌, ◌++◌, append_assoc}
use Rattle.pool_config.specs.Configuration.{machine_of}
use Rattle.pool_config.specs.Slots.{configured_slot, slots_upto}
use Rattle.pool_config.proofs.SlotLemmas.{upto_none, upto_more}
use Rattle.pool_config.proofs.slots.add_slots.Goals as goal

pub loop-before-init : goal.loop-before-init
loop-before-init c = upto_none c.args.slots.now c.args.place (machine_of c.args.machine.now)

pub loop-before-preserved : goal.loop-before-preserved
loop-before-preserved c =
    let m = machine_of c.args.machine.now in
    let n = c.loop-before.before in
    let one = configured_slot m (record { machine = c.args.place; slot = n + 1 }) ∷ [] in
    c.in_ok-push.ensures.ok ∙ (λ k. c.loop-before.invariant k ++ c.in_ok-slot.ensures k ∷ [])
    ∙ append_assoc c.args.slots.now (slots_upto c.args.place m n) one
    ∙ ap (λ l. c.args.slots.now ++ l) (sym (upto_more c.args.place m n))
