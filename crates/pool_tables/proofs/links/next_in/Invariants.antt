use Rattle.pool_tables.proofs.Backwards.{Goes, left}
use Rattle.pool_tables.specs.MailLists.{boxes_of}
use Rattle.pool_tables.proofs.links.next_in.Given as goal

abbrev pub invariant-back : goal.invariant-back
invariant-back l = Goes (boxes_of l.sent) l.place l.from l.found l.at

abbrev pub decreases-back : goal.decreases-back
decreases-back l = left l.at
