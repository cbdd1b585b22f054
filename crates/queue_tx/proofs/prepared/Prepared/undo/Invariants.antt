-- What is undone of the changes so far.
use Rattle.std.proofs.Common.{◌≡◌, map, take}
use Rattle.queue_tx.specs.Prepared.{change_of, undo_of}
use Rattle.queue_tx.proofs.prepared.Prepared.undo.Given as goal

abbrev pub invariant-loop-change : goal.invariant-loop-change
invariant-loop-change l = map change_of l.changes.items ≡ undo_of l.queue (map change_of (take l.change-index l.change-items))
