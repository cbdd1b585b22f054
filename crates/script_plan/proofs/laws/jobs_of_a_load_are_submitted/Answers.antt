use Rattle.script_plan.proofs.LoadLemmas.{exactly}
use Rattle.script_plan.proofs.laws.jobs_of_a_load_are_submitted.Goals as goal

pub returns : goal.returns
returns c = exactly
