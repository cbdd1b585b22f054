use Rattle.thin_pool.proofs.job.SlotRunCopied.copy.Goals as goal

pub returns : goal.returns
returns c = λ i. record { job = c.args.self.now.job; number = c.args.self.now.number; judged = c.in_ok-copy.ensures i; until = c.args.self.now.until }
