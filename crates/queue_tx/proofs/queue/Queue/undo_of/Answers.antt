use Rattle.std.proofs.Common.{ap, ◌∙◌}
use Rattle.std.proofs.lemmas.Result.{IfOk-weaker}
use Rattle.queue_tx.specs.Queues.{with_changes}
use Rattle.queue_tx.proofs.Undone.{undone}
use Rattle.queue_tx.proofs.queue.Queue.undo_of.Goals as goal

pub returns : goal.returns
returns c =
    let q = c.args.self.now in
    let cs = c.args.prepared.now in
    IfOk-weaker c.undo.result _ _ (λ undo is. ap (with_changes (with_changes q cs)) is ∙ undone q cs c.get.ensures.ordered) c.undo.ensures
