use Rattle.auto_cluster.proofs.Agreeing as laws
use Rattle.auto_cluster.proofs.laws.significant_part_is_one.Goals as goal

pub returns : goal.returns
returns c = laws.one_part
