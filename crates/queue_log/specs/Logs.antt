-- A log and its file.
use Rattle.std.specs.Prelude.{◌≡◌, ◌≢◌, ◌⊎◌, ◌≤◌, ◌<◌, ℕ, Bool, true, List, [], ◌∷◌, ◌++◌, length, take, codes, Option, Some, None, Result, Ok, Err, IsSome}
use Rattle.pool_outer.specs.Cause.{Rose}
use Rattle.pool_outer.specs.Files.{Contents, Images, Lengths, Leaves, bytes_in}
use Rattle.pool_outer.specs.declared.limit.Which.TheVariants.{LogLine, Roll}
use Rattle.receipt_roll.specs.declared.roll.TheConstants.{MAX_ITEMS}
use Rattle.receipt_roll.specs.Values.{RollMark, ReceiptValue}
use Rattle.pool_store.specs.Moments.{LeavesOnly}
use Rattle.queue_tx.specs.Operations.{Operation}
use Rattle.queue_tx.specs.Printable.{IsPrintable}
use Rattle.queue_tx.specs.Queues.{KeyedAds, QueueOf, queue_after}
use Rattle.queue_record.specs.Texts.{AreTexts, first_long, tx_text}
use Rattle.queue_record.specs.ReadSoFar.{start, fed}
use Rattle.queue_log.specs.declared.error.LogError.{LogError}
use Rattle.queue_log.specs.declared.error.LogError.TheVariants.{BadRecord, Limit, Disk, Memory}
use Rattle.queue_log.specs.declared.log.Halt.{Halt}
use Rattle.queue_log.specs.declared.recover.Opening.{Opening}
use Rattle.queue_log.specs.NewLog.{new_log_text, new_log_tx, opening_of}
use Rattle.queue_log.specs.Stands.{Stands, StandsAs, IsBeforeOrAfter, IsSettled, bad_line}

-- a log as its callers see it
pub record LogValue (D : Type 0) : Type 0 where
  pub store : D
  -- the name of its file
  pub name : List ℕ
  -- the transactions of its roll, which roll that is, and the queue that they build
  pub list : List (List Operation)
  pub mark : RollMark
  pub queue : KeyedAds
  -- the sequence of the file among those that were rotated
  pub sequence : ℕ
  -- what it answers since an append has failed, and the transaction that was not acknowledged
  pub halt : Option Halt

-- ---- the file

-- the file is the list, all of it solid
pub record IsWhole (list : List (List Operation)) (queue : KeyedAds) (bytes : List ℕ) (solid : ℕ)
    : Type 0 where
  pub settled : IsSettled list queue bytes
  pub durable : length bytes ≤ solid

-- a transaction that may follow the list
pub record IsPending (queue : KeyedAds) (tx : List Operation) : Type 0 where
  pub printable : IsPrintable tx
  pub fits : first_long tx ≡ None
  pub texts : AreTexts tx
  pub after : KeyedAds
  pub applies : queue_after queue tx ≡ Ok after

-- behind the list, all of which is solid, stands a prefix of the text of one transaction
pub record IsTorn (list : List (List Operation)) (queue : KeyedAds) (tx : List Operation)
    (bytes : List ℕ) (solid : ℕ) : Type 0 where
  pub base : List ℕ
  pub count : ℕ
  pub settled : IsSettled list queue base
  pub durable : length base ≤ solid
  pub pending : IsPending queue tx
  pub parts : bytes ≡ base ++ take count (tx_text tx)

-- what always holds of a log's file
abbrev pub KeepsLog
    : Option Halt → List (List Operation) → KeyedAds → List ℕ → ℕ → Type 0
KeepsLog None list queue bytes solid = IsWhole list queue bytes solid
KeepsLog (Some halt) list queue bytes solid = IsTorn list queue halt.pending bytes solid

-- what the images of a log's file stand for: its list, or that with the pending transaction
abbrev pub StandsForLog : Option Halt → List (List Operation) → List ℕ → Type 0
StandsForLog None list image = Stands list image
StandsForLog (Some halt) list image = IsBeforeOrAfter list halt.pending image

-- a stop leaves of a file what stands for these transactions
abbrev pub StandsDurably
    : Contents → Lengths → List ℕ → List (List Operation) → Type 0
StandsDurably file solid name list =
    (image : List ℕ) → Leaves file solid name image → Stands list image

-- ---- the queue of the file, whatever list builds it

-- the bytes stand for some transactions that build this queue
pub record StandsForQueue (queue : KeyedAds) (bytes : List ℕ) : Type 0 where
  pub list : List (List Operation)
  pub stands : Stands list bytes
  pub builds : QueueOf list queue

-- for this queue, or for the one with a transaction done to it
abbrev pub StandsForEitherQueue : KeyedAds → List Operation → List ℕ → Type 0
StandsForEitherQueue queue tx image =
    StandsForQueue queue image
    ⊎ ((after : KeyedAds) × (queue_after queue tx ≡ Ok after) × StandsForQueue after image)

-- for a log's queue, or for that with the pending transaction done
abbrev pub StandsForLogQueue : Option Halt → KeyedAds → List ℕ → Type 0
StandsForLogQueue None queue image = StandsForQueue queue image
StandsForLogQueue (Some halt) queue image = StandsForEitherQueue queue halt.pending image

-- a stop leaves of a file what stands for this queue
abbrev pub KeepsQueue : Contents → Lengths → List ℕ → KeyedAds → Type 0
KeepsQueue file solid name queue =
    (image : List ℕ) → Leaves file solid name image → StandsForQueue queue image

-- ---- append

abbrev pub receipt_of : {D : Type 0} → LogValue D → List Operation → ReceiptValue (List Operation)
receipt_of log tx = record { number = length log.list; item = tx; mark = log.mark }

-- the transaction is the last of the list, and done to the queue
pub record IsAppended {D : Type 0} (old new : LogValue D) (tx : List Operation) : Type 0 where
  pub listed : new.list ≡ old.list ++ tx ∷ []
  pub queued : queue_after old.queue tx ≡ Ok new.queue
  pub same_roll : new.mark ≡ old.mark
  pub same_file : (new.name ≡ old.name) × (new.sequence ≡ old.sequence)
  pub goes_on : new.halt ≡ None

-- nothing but the store has changed, and the log answers this error from now on
abbrev pub IsHalted : {D : Type 0} → LogValue D → LogValue D → List Operation → LogError → Type 0
IsHalted old new tx error = new ≡ record old {
  store = new.store;
  halt = Some (record { error = error; pending = tx });
}

-- Why an append was refused, and what it left: nothing has changed, or the log is halted.
abbrev pub IsAppendRefused
    : {D : Type 0} → LogValue D → LogValue D → List Operation → ℕ → ℕ → LogError → Type 0
IsAppendRefused old new tx before now (BadRecord line) = ⊥
IsAppendRefused old new tx before now (Limit LogLine) = (new ≡ old) × IsSome (first_long tx)
IsAppendRefused old new tx before now (Limit Roll) =
    (new ≡ old) × (first_long tx ≡ None) × (MAX_ITEMS ≤ length old.list)
IsAppendRefused old new tx before now (Limit which) = ⊥
IsAppendRefused old new tx before now Disk =
    IsHalted old new tx Disk × (first_long tx ≡ None) × (length old.list < MAX_ITEMS)
    × Rose before now
IsAppendRefused old new tx before now Memory = (new ≡ old) ⊎ IsHalted old new tx Memory

-- ---- recovery

-- What recovery makes of the bytes of a file: these transactions, this queue and this sequence; and
-- what it leaves of them.
pub record IsRecovered (old new : List ℕ) (reading : ℕ) (list : List (List Operation))
    (queue : KeyedAds) (sequence : ℕ) : Type 0 where
  pub good : bad_line (opening_of old reading) ≡ None
  pub listed : list ≡ (fed start (opening_of old reading)).list
  pub queued : queue ≡ (fed start (opening_of old reading)).queue
  pub sequenced : sequence ≡ (fed start (opening_of old reading)).sequence
  pub cut : 0 < length old → new ≡ take (fed start old).whole old
  pub made : length old ≡ 0 → new ≡ new_log_text reading

-- while it does so, the file stands for what it stood for, or for what recovery makes of it
abbrev pub StandsForOpening : List ℕ → ℕ → List ℕ → Type 0
StandsForOpening old reading image =
    StandsAs old image ⊎ StandsAs (opening_of old reading) image

-- A stop at any moment of a recovery leaves of the file what it might have left before, or what
-- stands for that.
abbrev pub LeavesOpening
    : {D : Type 0} → (D → Contents) → (D → Lengths) → (D → ℕ) → (D → Images) → List ℕ → ℕ → D → D
    → Type 0
LeavesOpening file solid moment left_since name reading old new =
    LeavesOnly moment left_since name old new (λ image. Leaves (file old) (solid old) name image
    ⊎ StandsForOpening (bytes_in (file old name)) reading image)

-- where a log can't be recovered, its file is as it was, or has a prefix of a new log's text
abbrev pub IsUncut : List ℕ → List ℕ → ℕ → Type 0
IsUncut [] new reading = (n : ℕ) × (new ≡ take n (new_log_text reading))
IsUncut (b ∷ old) new reading = new ≡ b ∷ old

-- the store that a recovery gives back
abbrev pub recovered_store : {D : Type 0} → Result (LogValue D) (D × LogError) → D
recovered_store (Ok log) = log.store
recovered_store (Err p) = p.0

-- what a log begins with that is begun at a reading
pub record IsBegun (reading : ℕ) (opening : Opening) : Type 0 where
  pub settled : IsSettled (new_log_tx ∷ []) opening.logged.queue (new_log_text reading)
  pub stamped : (fed start (new_log_text reading)).sequence ≡ 1
  pub listed : opening.logged.list ≡ new_log_tx ∷ []
  pub sequenced : opening.sequence ≡ 1

-- the same of what a log begins with, whose file is then whole
pub record IsOpened (old new : List ℕ) (solid reading : ℕ) (opening : Opening) : Type 0 where
  pub recovered :
      IsRecovered old new reading opening.logged.list opening.logged.queue opening.sequence
  pub whole : IsWhole opening.logged.list opening.logged.queue new solid

-- Why a file's log can't be recovered, the first of which two are told only of a store that tells
-- what its files hold: a line is bad; there are too many transactions; the store has failed; memory
-- has run out.
abbrev pub IsRecoverRefused : Bool → List ℕ → ℕ → ℕ → LogError → Type 0
IsRecoverRefused tells bytes before now (BadRecord line) =
    tells ≡ true → bad_line bytes ≡ Some line
IsRecoverRefused tells bytes before now (Limit Roll) =
    tells ≡ true → (bad_line bytes ≡ None) × (MAX_ITEMS < length (fed start bytes).list)
IsRecoverRefused tells bytes before now (Limit which) = ⊥
IsRecoverRefused tells bytes before now Disk = Rose before now
IsRecoverRefused tells bytes before now Memory = Unit {0}

-- ---- another file

-- the name of a file beside the log's: neither that nor the one that the log is written to anew
pub record IsBeside (log name : List ℕ) : Type 0 where
  pub other : name ≢ log
  pub not_new : name ≢ log ++ codes ".tmp"

-- why bytes can't be written beside the log
abbrev pub IsBesideRefused : ℕ → ℕ → LogError → Type 0
IsBesideRefused before now Disk = Rose before now
IsBesideRefused before now Memory = Unit {0}
IsBesideRefused before now e = ⊥
