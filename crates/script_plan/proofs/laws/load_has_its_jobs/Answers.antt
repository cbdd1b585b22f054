use Rattle.script_plan.proofs.LoadLemmas.{count, each}
use Rattle.script_plan.proofs.laws.load_has_its_jobs.Goals as goal

pub returns-clause-count : goal.returns-clause-count
returns-clause-count c = count

pub returns-clause-each : goal.returns-clause-each
returns-clause-each c = each
