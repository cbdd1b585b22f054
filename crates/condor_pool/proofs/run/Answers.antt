use Rattle.condor_pool.proofs.run.Goals as goal

pub returns-in-Ok-clause-usage : goal.returns-in-Ok-clause-usage
returns-in-Ok-clause-usage g c = c.run_on.ensures.0
