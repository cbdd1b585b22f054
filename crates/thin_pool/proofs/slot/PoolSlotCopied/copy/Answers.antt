use Rattle.thin_pool.proofs.slot.PoolSlotCopied.copy.Goals as goal

pub returns : goal.returns
returns c = λ i. record { slot = c.args.self.now.slot; name = c.in_ok-copy.ensures i; ad = c.in_ok-copy-2.ensures i }
