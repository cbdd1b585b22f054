use Rattle.pool_state.proofs.state.PoolState.said_of_jobs.Goals as goal

pub returns : goal.returns
returns c = λ i. (c.in_ok-acked.ensures i, c.in_ok-ordered.ensures i, c.in_ok-reports.ensures i)
