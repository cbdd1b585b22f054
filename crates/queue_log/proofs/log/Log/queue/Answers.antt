use Rattle.std.proofs.Common.{subst}
use Rattle.queue_tx.specs.Printable.{HasPrintableKeys}
use Rattle.queue_log.proofs.Writings.{keys_printable}
use Rattle.queue_log.proofs.log.Log.queue.Goals as goal

pub returns-clause-keys : goal.returns-clause-keys
returns-clause-keys g c = subst (λ v. HasPrintableKeys v.queue) c.self.view_is (keys_printable c.self.inside.logged.queue c.queue.ensures.logged.writable)
