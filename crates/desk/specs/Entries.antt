-- An accepted event, as its holder keeps it.
use Rattle.std.specs.Prelude.{◌≡◌, ℕ, List, [], ◌∷◌, ◌++◌, Option, Some, None}
use Rattle.desk.specs.declared.entry.Entry.{Entry}
use Rattle.desk.specs.declared.entry.Sort.{Sort}
use Rattle.desk.specs.declared.entry.Sort.TheVariants as sort
use Rattle.pool_parts.specs.declared.answer.Answer.{Answer}
use Rattle.pool_parts.specs.declared.answer.Kept.{Kept}
use Rattle.pool_parts.specs.declared.event.Event.{Event}
use Rattle.pool_parts.specs.declared.event.Event.TheVariants.{Submit, Order, Receive, Tick, Check, Logged, Ended, Crash, Reopen, Matches, Close}
use Rattle.pool_parts.specs.Answers.{kept_of}
use Rattle.pool_parts.specs.Events.{holder_of, reading_of}
use Rattle.queue_tx.specs.Operations.{Operation}
use Rattle.receipt_roll.specs.Values.{ReceiptValue}

-- an event's name
abbrev pub sort_of : Event → Sort
sort_of (Submit boot jobs reading) = sort.Submit
sort_of (Order verb job reading) = sort.Order
sort_of (Receive who boot index reading judged mismatch) = sort.Receive
sort_of (Tick who boot reading) = sort.Tick
sort_of (Check boot job reading) = sort.Check
sort_of (Logged boot receipt) = sort.Logged
sort_of (Ended machine boot receipt reading) = sort.Ended
sort_of (Crash who) = sort.Crash
sort_of (Reopen who kept ended reading) = sort.Reopen
sort_of (Matches list judged reading) = sort.Matches
sort_of (Close length reading mismatch) = sort.Close

abbrev pub kept_number : Option (ReceiptValue (List Operation)) → Option ℕ
kept_number None = None
kept_number (Some receipt) = Some receipt.number

-- the number of the receipt that an event has
abbrev pub number_of : Event → Option ℕ
number_of (Logged boot receipt) = Some receipt.number
number_of (Ended machine boot receipt reading) = Some receipt.number
number_of (Reopen who kept ended reading) = kept_number kept
number_of _ = None

-- the entry of an event, by its place in the history and what was answered
abbrev pub entry_of : ℕ → Event → Kept → Entry
entry_of place e kept = record {
  place = place;
  who = holder_of e;
  sort = sort_of e;
  number = number_of e;
  reading = reading_of e;
  kept = kept;
}

-- one more entry, at some place, of this event and this answer
pub record Gained (before : List Entry) (e : Event) (a : Answer) (now : List Entry) : Type 0 where
  pub place : ℕ
  pub is : now ≡ before ++ entry_of place e (kept_of a) ∷ []
