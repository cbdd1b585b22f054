use Rattle.queue_tx.specs.Operations.{operation}
use Rattle.queue_tx.proofs.RoomKept.{op_leaves_room}
use Rattle.queue_tx.proofs.Steps.{op_done}
use Rattle.std.proofs.Common.{◌∙◌, ap}
use Rattle.std.specs.BTreeMap.{insert_entry}
use Rattle.queue_tx.specs.Keys.{key_cmp}
use Rattle.queue_tx.proofs.prepared.do_op.Goals as goal

pub returns-clause-done : goal.returns-clause-done
returns-clause-done c =
    op_done c.args.place c.args.queue.now c.args.changes.now.entries c.insert.new.self.entries (operation c.args.op.now) c.key-key.result c.in_ok-ad.ad c.in_ok-ad-2.ad
    c.key-key.ensures c.in_ok-ad.ensures.queue c.requires.ordered c.in_ok-ad.ensures.ad c.in_ok-ad-2.ensures.done
    (c.in_ok-insert.ensures.entries ∙ ap (λ es. insert_entry key_cmp es c.key-key.result c.in_ok-ad-2.ad) c.in_ok-ad.ensures.rest)

pub returns-clause-room : goal.returns-clause-room
returns-clause-room c =
    op_leaves_room c.args.place c.key-key.result (operation c.args.op.now) c.args.changes.now.entries c.take_ad.new.changes.entries c.insert.new.self.entries c.in_ok-ad.ad c.in_ok-ad-2.ad
    c.key-key.ensures c.in_ok-ad.ensures.room c.requires.room c.in_ok-ad.ensures.rest c.in_ok-ad-2.ensures.done c.in_ok-insert.ensures.entries
