use Rattle.std.proofs.Common.{ap}
use Rattle.queue_tx.specs.Operations.{Operation}
use Rattle.std.specs.Prelude.{List}
use Rattle.receipt_roll.specs.Values.{ReceiptValue, RollMark}
use Rattle.pool_cases.proofs.Marked.{marked_push}
use Rattle.pool_cases.proofs.rolls.Rolls.put.Goals as goal

pub invariant_of-self-in-Ok : goal.invariant_of-self-in-Ok
invariant_of-self-in-Ok c =
    let mark : ReceiptValue (List Operation) → RollMark = λ r. r.mark in
    rw (c.in_ok-push-in-Ok.ensures.items, c.append.ensures.mark)
    (marked_push _ _ c.in-Ok.receipt c.self.invariant (ap mark c.in-Ok.ensures.receipt))
