use Rattle.auto_cluster.proofs.Found.{lent_at, nothing_there, stands_by}
use Rattle.auto_cluster.proofs.finding.stands_at.Goals as goal

pub returns-in-Some : goal.returns-in-Some
returns-in-Some c =
    stands_by c.same.result _ c.in-Some.other.now c.args.part.now
    (lent_at c.args.parts.now c.args.place c.get.result c.in-Some.other c.get.ensures.lookup c.in-Some.is) c.same.ensures

pub returns-in-None : goal.returns-in-None
returns-in-None c = nothing_there c.args.parts.now c.args.place c.args.part.now c.in-None.ensures.lookup.3
