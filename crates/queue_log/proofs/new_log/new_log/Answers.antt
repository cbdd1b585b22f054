use Rattle.std.proofs.Common.{◌≡◌, ◌∙◌, [], ◌∷◌, Ok, refl, subst}
use Rattle.queue_tx.specs.Queues.{queue_after}
use Rattle.queue_log.specs.NewLog.{new_log_tx}
use Rattle.queue_log.proofs.NewLog.{new_is, new_logged}
use Rattle.queue_log.proofs.new_log.new_log.Goals as goal

pub returns-clause-logged : goal.returns-clause-logged
returns-clause-logged c =
    let done = subst (λ t. queue_after [] t ≡ Ok c.in_ok-queue.queue) c.in_ok-tx.ensures c.in_ok-queue.ensures in
    let listed : c.from_vec.result ≡ new_log_tx ∷ [] = c.from_vec.ensures ∙ rw (c.push.ensures.items, c.unwrap.ensures, c.reserve.ensures.items, c.new-txs.ensures.items, c.in_ok-tx.ensures) refl in
    new_logged c.from_vec.result c.in_ok-queue.queue listed c.in_ok-text.ensures.fits done

pub returns-clause-settled : goal.returns-clause-settled
returns-clause-settled c =
    let done = subst (λ t. queue_after [] t ≡ Ok c.in_ok-queue.queue) c.in_ok-tx.ensures c.in_ok-queue.ensures in
    (new_is c.args.reading c.in_ok-queue.queue c.ranges.reading.fits c.in_ok-text.ensures.fits c.in_ok-text.ensures.are_texts done).settled

pub returns-clause-sequence : goal.returns-clause-sequence
returns-clause-sequence c =
    let done = subst (λ t. queue_after [] t ≡ Ok c.in_ok-queue.queue) c.in_ok-tx.ensures c.in_ok-queue.ensures in
    (new_is c.args.reading c.in_ok-queue.queue c.ranges.reading.fits c.in_ok-text.ensures.fits c.in_ok-text.ensures.are_texts done).sequenced

pub returns-clause-list : goal.returns-clause-list
returns-clause-list c = c.from_vec.ensures ∙ rw (c.push.ensures.items, c.unwrap.ensures, c.reserve.ensures.items, c.new-txs.ensures.items, c.in_ok-tx.ensures) refl
