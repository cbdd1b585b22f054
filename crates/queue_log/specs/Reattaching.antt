-- A log that goes on with what its file has.
use Rattle.std.specs.Prelude.{◌≡◌, ◌⊎◌, ◌≤◌, ℕ, Bool, true, List, [], ◌∷◌, ◌++◌, length, take, Option, Some, None, IfSome}
use Rattle.pool_outer.specs.Cause.{Rose}
use Rattle.pool_outer.specs.declared.limit.Which.TheVariants.{Roll}
use Rattle.receipt_roll.specs.declared.roll.TheConstants.{MAX_ITEMS}
use Rattle.receipt_roll.specs.Values.{ReceiptValue}
use Rattle.queue_tx.specs.Operations.{Operation}
use Rattle.queue_record.specs.ReadSoFar.{start, fed}
use Rattle.queue_log.specs.declared.error.LogError.{LogError}
use Rattle.queue_log.specs.declared.error.LogError.TheVariants.{BadRecord, Limit, Disk, Memory}
use Rattle.queue_log.specs.declared.log.Halt.{Halt}
use Rattle.queue_log.specs.declared.logged.More.{More}
use Rattle.queue_log.specs.Logged.{HasOneMore, with_more}
use Rattle.queue_log.specs.Logs.{LogValue, IsAppended, receipt_of}
use Rattle.queue_log.specs.Stands.{IsSettled, Stands, bad_line}

-- ---- the log

-- It has the same list, or a further transaction, with its receipt; and it isn't halted.
abbrev pub IsReattached
    : {D : Type 0} → LogValue D → LogValue D → Option (ReceiptValue (List Operation)) → Type 0
IsReattached old new None = new ≡ record old { store = new.store; halt = None }
IsReattached old new (Some receipt) =
    IsAppended old new receipt.item × (receipt ≡ receipt_of old receipt.item)

-- a list, and the transaction for which a receipt is handed out, where there is one
abbrev pub with_receipt
    : List (List Operation) → Option (ReceiptValue (List Operation)) → List (List Operation)
with_receipt list None = list
with_receipt list (Some receipt) = list ++ receipt.item ∷ []

-- the transaction of the append that has failed
abbrev pub IsPendingTx : Option Halt → List Operation → Type 0
IsPendingTx None tx = ⊥
IsPendingTx (Some halt) tx = tx ≡ halt.pending

-- its receipt
abbrev pub IsOfPending : Option Halt → ReceiptValue (List Operation) → Type 0
IsOfPending halt receipt = IsPendingTx halt receipt.item

-- What the file stood for, and what is left of it.
pub record IsFound (halt : Option Halt) (list : List (List Operation)) (old new : List ℕ)
    (kept : Option (ReceiptValue (List Operation))) : Type 0 where
  pub stands : Stands (with_receipt list kept) old
  pub pending : IfSome kept (IsOfPending halt)
  pub cut : new ≡ take (fed start old).whole old

-- Why a log can't go on: its file differs from what it wrote, which never comes where the store
-- tells what its files hold; the file has a further transaction, and the roll is full; the store
-- has failed; memory has run out.
abbrev pub IsReattachRefused
    : Bool → List ℕ → List (List Operation) → ℕ → ℕ → LogError → Type 0
IsReattachRefused tells bytes list before now (BadRecord line) = tells ≡ true → ⊥
IsReattachRefused tells bytes list before now (Limit which) =
    (which ≡ Roll) × (MAX_ITEMS ≤ length list)
    × (tells ≡ true → HasOneMore (fed start bytes).list list)
IsReattachRefused tells bytes list before now Disk = Rose before now
IsReattachRefused tells bytes list before now Memory = Unit {0}

-- ---- its file

-- The bytes say the list, or that with a further transaction and then its queue; cut behind the
-- last whole transaction, all of them are solid.
pub record IsReread (list : List (List Operation)) (old new : List ℕ) (solid : ℕ)
    (more : Option More) : Type 0 where
  pub stands : Stands (with_more list more) old
  pub queued : IfSome more (λ m. m.queue ≡ (fed start old).queue)
  pub cut : new ≡ take (fed start old).whole old
  pub settled : IsSettled (with_more list more) (fed start old).queue new
  pub durable : length new ≤ solid

-- a list that was read is neither the roll's nor that with the pending transaction
pub record IsForeign (halt : Option Halt) (list roll : List (List Operation)) : Type 0 where
  pub not_same : list ≡ roll → ⊥
  pub not_pending : (tx : List Operation) → IsPendingTx halt tx → list ≡ roll ++ tx ∷ [] → ⊥

-- why what such a list has beyond the roll can't be had
abbrev pub IsPendingRefused
    : Option Halt → List (List Operation) → List (List Operation) → LogError → Type 0
IsPendingRefused halt list roll (BadRecord line) = (line ≡ 0) × IsForeign halt list roll
IsPendingRefused halt list roll (Limit which) =
    (which ≡ Roll) × HasOneMore list roll × (MAX_ITEMS ≤ length roll)
IsPendingRefused halt list roll Disk = ⊥
IsPendingRefused halt list roll Memory = Unit {0}

-- Why they can't be had: a line of them is bad, or they say another list; the roll is full; the
-- store has failed; memory has run out.
abbrev pub IsRereadRefused
    : Option Halt → Bool → List ℕ → List (List Operation) → ℕ → ℕ → LogError → Type 0
IsRereadRefused halt tells bytes list before now (BadRecord line) =
    tells ≡ true
    → (bad_line bytes ≡ Some line) ⊎ ((line ≡ 0) × IsForeign halt (fed start bytes).list list)
IsRereadRefused halt tells bytes list before now (Limit which) =
    (which ≡ Roll) × (MAX_ITEMS ≤ length list)
    × (tells ≡ true → HasOneMore (fed start bytes).list list)
IsRereadRefused halt tells bytes list before now Disk = Rose before now
IsRereadRefused halt tells bytes list before now Memory = Unit {0}
