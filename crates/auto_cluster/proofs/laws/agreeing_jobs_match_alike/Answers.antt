use Rattle.auto_cluster.proofs.Agreeing as laws
use Rattle.auto_cluster.proofs.laws.agreeing_jobs_match_alike.Goals as goal

pub returns : goal.returns
returns c = laws.agreeing_jobs_match_alike
