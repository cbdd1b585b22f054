-- What each event says: whose it is, its reading, and the receipt that it has of a transaction.
use Rattle.std.specs.Prelude.{ℕ, List, Option, Some, None}
use Rattle.pool_outer.specs.declared.gate.Daemon.{Daemon}
use Rattle.pool_outer.specs.declared.gate.Daemon.TheVariants.{Schedd, Startd, Matchmaker}
use Rattle.queue_tx.specs.Operations.{Operation}
use Rattle.receipt_roll.specs.Values.{ReceiptValue}
use Rattle.pool_parts.specs.declared.event.Event.{Event}
use Rattle.pool_parts.specs.declared.event.Event.TheVariants.{Submit, Order, Receive, Tick, Check, Logged, Ended, Crash, Reopen, Matches, Close}

-- the daemon whose event it is; none for the events of the master
abbrev pub holder_of : Event → Option Daemon
holder_of (Submit boot jobs reading) = Some Schedd
holder_of (Order verb job reading) = None
holder_of (Receive who boot index reading judged mismatch) = Some who
holder_of (Tick who boot reading) = Some who
holder_of (Check boot job reading) = Some Schedd
holder_of (Logged boot receipt) = Some Schedd
holder_of (Ended machine boot receipt reading) = Some (Startd machine)
holder_of (Crash who) = Some who
holder_of (Reopen who kept ended reading) = Some who
holder_of (Matches list judged reading) = Some Matchmaker
holder_of (Close length reading mismatch) = None

-- what is logged and what crashes has no reading
abbrev pub reading_of : Event → Option ℕ
reading_of (Submit boot jobs reading) = Some reading
reading_of (Order verb job reading) = Some reading
reading_of (Receive who boot index reading judged mismatch) = Some reading
reading_of (Tick who boot reading) = Some reading
reading_of (Check boot job reading) = Some reading
reading_of (Logged boot receipt) = None
reading_of (Ended machine boot receipt reading) = Some reading
reading_of (Crash who) = None
reading_of (Reopen who kept ended reading) = Some reading
reading_of (Matches list judged reading) = Some reading
reading_of (Close length reading mismatch) = Some reading

-- the receipt of the log's roll
abbrev pub receipt_of : Event → Option (ReceiptValue (List Operation))
receipt_of (Logged boot receipt) = Some receipt
receipt_of (Reopen who kept ended reading) = kept
receipt_of _ = None
