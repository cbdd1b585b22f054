-- What a log has logged, apart from its file.
use Rattle.std.specs.Prelude.{◌≡◌, ◌<◌, ◌≤◌, ℕ, ◌∷◌, [], ◌++◌, List, length, Option, None, Some, Ok, IsSome, IfSome}
use Rattle.pool_outer.specs.declared.limit.Which.TheVariants.{LogLine, Roll}
use Rattle.receipt_roll.specs.declared.roll.TheConstants.{MAX_ITEMS}
use Rattle.receipt_roll.specs.Values.{RollMark, ReceiptValue}
use Rattle.queue_tx.specs.Operations.{Operation}
use Rattle.queue_tx.specs.Queues.{KeyedAds, QueueOf, queue_after, with_changes}
use Rattle.queue_record.specs.Texts.{first_long, tx_text}
use Rattle.queue_log.specs.declared.error.LogError.{LogError}
use Rattle.queue_log.specs.declared.error.LogError.TheVariants.{BadRecord, Limit, Disk, Memory}
use Rattle.queue_log.specs.declared.logged.More.{More}
use Rattle.queue_log.specs.declared.logged.Ready.{Ready}
use Rattle.queue_log.specs.Writable.{IsWritableQueue}

pub record LoggedValue : Type 0 where
  -- the transactions of the roll, and the queue that they build
  pub list : List (List Operation)
  pub queue : KeyedAds
  -- so many more take no memory
  pub spare : ℕ
  pub mark : RollMark

-- the queue is that of the transactions, and can be written
pub record IsLogged (list : List (List Operation)) (queue : KeyedAds) : Type 0 where
  pub builds : QueueOf list queue
  pub writable : IsWritableQueue queue

-- what is ready for a transaction, all of which can be written
pub record IsReadyFor (queue : KeyedAds) (tx : List Operation) (ready : Ready) : Type 0 where
  pub text : ready.text ≡ tx_text tx
  pub copied : ready.copy ≡ tx
  pub done : queue_after queue tx ≡ Ok (with_changes queue ready.changes)
  pub fits : first_long tx ≡ None

-- why a transaction can't be logged
abbrev pub IsOverLimit : List (List Operation) → List Operation → LogError → Type 0
IsOverLimit list tx (Limit LogLine) = IsSome (first_long tx)
IsOverLimit list tx (Limit Roll) = (first_long tx ≡ None) × (MAX_ITEMS ≤ length list)
IsOverLimit list tx Memory = Unit {0}
IsOverLimit list tx e = ⊥

-- the receipt of the next transaction
abbrev pub logged_receipt : LoggedValue → List Operation → ReceiptValue (List Operation)
logged_receipt logged tx =
    record { number = length logged.list; item = tx; mark = logged.mark }

-- too many transactions were read
abbrev pub IsTooMany : List (List Operation) → LogError → Type 0
IsTooMany list (Limit Roll) = MAX_ITEMS < length list
IsTooMany list Memory = Unit {0}
IsTooMany list e = ⊥

-- ---- a list that was read

-- it is the roll's with a further transaction
abbrev pub HasOneMore : List (List Operation) → List (List Operation) → Type 0
HasOneMore list roll = (tx : List Operation) × (list ≡ roll ++ tx ∷ [])

-- it is neither the roll's nor that with a further transaction
pub record IsOtherList (list roll : List (List Operation)) : Type 0 where
  pub not_same : list ≡ roll → ⊥
  pub not_more : HasOneMore list roll → ⊥

-- a roll's list, and the transaction that was read beyond it, where there is one
abbrev pub with_more : List (List Operation) → Option More → List (List Operation)
with_more roll None = roll
with_more roll (Some more) = roll ++ more.tx ∷ []

-- what a list that was read, which builds that queue, has beyond the roll
abbrev pub IsBeyond
    : List (List Operation) → KeyedAds → List (List Operation) → Option More → Type 0
IsBeyond list queue roll more =
    (list ≡ with_more roll more) × IfSome more (λ m. m.queue ≡ queue)

-- it can be taken in: it follows on these transactions and their queue, and the roll has room
pub record IsNext (list : List (List Operation)) (queue : KeyedAds) (spare : ℕ) (more : More)
    : Type 0 where
  pub logged : IsLogged (list ++ more.tx ∷ []) more.queue
  pub applies : queue_after queue more.tx ≡ Ok more.queue
  pub copied : more.copy ≡ more.tx
  pub room : 0 < spare
  pub within : length list < MAX_ITEMS

-- why what is beyond the roll can't be had
abbrev pub IsBeyondRefused
    : List (List Operation) → List (List Operation) → LogError → Type 0
IsBeyondRefused list roll (BadRecord line) = (line ≡ 0) × IsOtherList list roll
IsBeyondRefused list roll (Limit which) =
    (which ≡ Roll) × HasOneMore list roll × (MAX_ITEMS ≤ length roll)
IsBeyondRefused list roll Disk = ⊥
IsBeyondRefused list roll Memory = Unit {0}
