use Rattle.std.proofs.Common.{◌∙◌, Some, ap, subst, sym}
use Rattle.queue_log.specs.Logged.{IsBeyond, with_more}
use Rattle.queue_log.proofs.Reattached.{foreign_of, other_pending}
use Rattle.queue_log.proofs.reattach.pending_beyond.Goals as goal

pub returns-in-Err-clause-refused : goal.returns-in-Err-clause-refused
returns-in-Err-clause-refused c = foreign_of c.args.halt.now c.args.list c.args.logged.now.list c.in-Err.error c.in-Err.ensures.refused
