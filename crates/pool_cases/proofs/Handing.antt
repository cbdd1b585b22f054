-- The receipt that comes back of an event has the mark of the pool's log.
use Rattle.std.proofs.Common.{List, Option, Some, None, ◌∙◌}
use Rattle.std.specs.Prelude.{IfSome}
use Rattle.pool_parts.specs.declared.event.Event.{Event}
use Rattle.pool_parts.specs.declared.event.Event.TheVariants as event
use Rattle.pool_parts.specs.Events.{receipt_of}
use Rattle.pool_cases.specs.Marks.{HasMarks, IsMarked, RollMarks}
use Rattle.pool_rules.specs.Given.{IsGiven, IsOfLog}
use Rattle.pool_state.specs.declared.state.PoolState.{PoolState}
use Rattle.queue_tx.specs.Operations.{Operation}
use Rattle.receipt_roll.specs.Values.{ReceiptValue}

kept_marked : (m : RollMarks) (s : PoolState) (kept : Option (ReceiptValue (List Operation))) → HasMarks m s → IfSome kept (IsOfLog s) → IfSome kept (IsMarked m.log)
kept_marked m s None has given = tt
kept_marked m s (Some r) has given = given ∙ has.log

pub receipt_marked : (m : RollMarks) (s : PoolState) (e : Event) → HasMarks m s → IsGiven e s → IfSome (receipt_of e) (IsMarked m.log)
receipt_marked m s (event.Submit boot jobs reading) has given = tt
receipt_marked m s (event.Order v job reading) has given = tt
receipt_marked m s (event.Receive who boot index reading judged mismatch) has given = tt
receipt_marked m s (event.Tick who boot reading) has given = tt
receipt_marked m s (event.Check boot job reading) has given = tt
receipt_marked m s (event.Logged boot receipt) has given = given ∙ has.log
receipt_marked m s (event.Ended machine boot receipt reading) has given = tt
receipt_marked m s (event.Crash who) has given = tt
receipt_marked m s (event.Reopen who kept ended reading) has given = kept_marked m s kept has given.0
receipt_marked m s (event.Matches list judged reading) has given = tt
receipt_marked m s (event.Close length reading mismatch) has given = tt
