use Rattle.pool_input.proofs.input.pool_slot.Goals as goal

pub returns : goal.returns
returns c = λ i. record { slot = c.args.slot.now.slot; name = c.in_ok-copy.ensures i; ad = c.in_ok-copy-2.ensures i }
