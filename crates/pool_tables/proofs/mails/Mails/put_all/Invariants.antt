use Rattle.pool_tables.proofs.Sending.{Sends}
use Rattle.std.specs.Vec.Iter.{into_iter_items}
use Rattle.pool_tables.proofs.mails.Mails.put_all.Given as goal

abbrev pub invariant-mails : goal.invariant-mails
invariant-mails l = Sends l.fn.mails l.fn.self (into_iter_items l.mail-iterator) l.self
