use Rattle.std.proofs.Common.{◌≡◌, Option, Some, None, IfOk, IfSome, ap, sym, ◌∙◌, subst}
use Rattle.std.specs.Prelude.{unwrap_or}
use Rattle.std.specs.Map.{lookup}
use Rattle.queue_tx.specs.Keys.{same_key}
use Rattle.queue_tx.specs.Queues.{ad_at}
use Rattle.ad_tree.specs.Ad.{Attributes}
use Rattle.queue_tx.specs.Roomy.{HasRoom}
use Rattle.queue_tx.proofs.Queues.{found_changed}
use Rattle.queue_tx.proofs.RoomKept.{copy_has_room, room_found}
use Rattle.queue_tx.proofs.prepared.take_ad.Goals as goal

pub returns-in-Some-clause-ad : goal.returns-in-Some-clause-ad
returns-in-Some-clause-ad c =
    let q = c.args.queue.now in
    let found : lookup (same_key c.args.key.now) c.args.changes.now.entries ≡ Some c.in-Some.ad = sym c.in-Some.ensures.value in
    sym (found_changed c.args.key.now q c.args.changes.now.entries c.get-stands.ensures.ordered c.requires.ordered ∙ ap (λ o. unwrap_or o (ad_at c.args.key.now q)) found)

pub returns-in-None-clause-ad : goal.returns-in-None-clause-ad
returns-in-None-clause-ad c =
    let q = c.args.queue.now in
    let none : lookup (same_key c.args.key.now) c.args.changes.now.entries ≡ None = sym c.in-None.ensures.value in
    let same = sym (found_changed c.args.key.now q c.args.changes.now.entries c.get-stands.ensures.ordered c.requires.ordered ∙ ap (λ o. unwrap_or o (ad_at c.args.key.now q)) none) in
    subst (λ x. IfOk c.copy_of.result (λ a. a ≡ x)) (c.get-stands.ensures.ad ∙ same) c.copy_of.ensures

pub returns-in-Some-clause-room : goal.returns-in-Some-clause-room
returns-in-Some-clause-room c =
    subst (λ (o : Option (Option Attributes)). IfSome o (λ a. IfSome a (HasRoom c.args.key.now))) (sym c.in-Some.ensures.value) (room_found c.args.key.now c.args.changes.now.entries c.requires.room)

pub returns-in-None-clause-room : goal.returns-in-None-clause-room
returns-in-None-clause-room c =
    let same = subst (λ x. IfOk c.copy_of.result (λ a. a ≡ x)) c.get-stands.ensures.ad c.copy_of.ensures in
    copy_has_room c.args.key.now (ad_at c.args.key.now c.args.queue.now) c.copy_of.result same (c.room.ensures.room c.args.key.now)
