use Rattle.pool_state.proofs.copy.copy_actors.Goals as goal

pub returns : goal.returns
returns c = λ i. record { machines = c.in_ok-machines.ensures i; schedd = c.in_ok-schedd.ensures i; queue = c.in_ok-queue.ensures i }
