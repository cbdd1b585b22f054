use Rattle.auto_cluster.proofs.Named.{none_taken}
use Rattle.auto_cluster.proofs.parts.keep_named.Goals as goal

pub returns-in_default : goal.returns-in_default
returns-in_default c = none_taken c.args.names.now c.args.part.now _ c.in_default.ensures
