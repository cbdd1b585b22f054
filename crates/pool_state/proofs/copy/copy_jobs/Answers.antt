use Rattle.pool_state.proofs.copy.copy_jobs.Goals as goal

pub returns : goal.returns
returns c = λ i. record { finished = c.in_ok-finished.ensures i; acked = c.in_ok-acked.ensures i; ordered = c.in_ok-ordered.ensures i; reports = c.in_ok-reports.ensures i }
