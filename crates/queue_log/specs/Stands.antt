-- Which transactions the bytes of a log stand for.
use Rattle.std.specs.Prelude.{◌≡◌, ◌⊎◌, ℕ, List, [], ◌∷◌, ◌++◌, Option, Some, None}
use Rattle.queue_tx.specs.Operations.{Operation}
use Rattle.queue_tx.specs.Queues.{KeyedAds}
use Rattle.queue_record.specs.declared.error.RecordError.{RecordError}
use Rattle.queue_record.specs.declared.error.RecordError.TheVariants.{BadRecord, TooLong, Memory}
use Rattle.queue_record.specs.ReadSoFar.{start, fed}
use Rattle.queue_record.specs.Logs.{IsAtRest}

-- no line is bad, and the bytes say these transactions
pub record Stands (txs : List (List Operation)) (bytes : List ℕ) : Type 0 where
  pub good : (fed start bytes).refusal ≡ None
  pub listed : (fed start bytes).list ≡ txs

-- they say these transactions, with a further one or without it
abbrev pub IsBeforeOrAfter : List (List Operation) → List Operation → List ℕ → Type 0
IsBeforeOrAfter txs tx bytes = Stands txs bytes ⊎ Stands (txs ++ tx ∷ []) bytes

-- The bytes say these transactions, which build this queue, and end where a transaction or a single
-- line ends.
pub record IsSettled (txs : List (List Operation)) (queue : KeyedAds) (bytes : List ℕ)
    : Type 0 where
  pub at_rest : IsAtRest (fed start bytes)
  pub listed : (fed start bytes).list ≡ txs
  pub queued : (fed start bytes).queue ≡ queue

-- the number of the line that is refused; of bytes no reading runs out of memory
abbrev pub line_of : Option RecordError → Option ℕ
line_of None = None
line_of (Some (BadRecord line)) = Some line
line_of (Some (TooLong line)) = Some line
line_of (Some Memory) = Some 0

-- the first bad line of the bytes of a log
abbrev pub bad_line : List ℕ → Option ℕ
bad_line bytes = line_of (fed start bytes).refusal

-- other bytes of a log say the same: the same transactions, and the same first bad line or none
pub record StandsAs (bytes image : List ℕ) : Type 0 where
  pub same_line : bad_line image ≡ bad_line bytes
  pub listed : (fed start image).list ≡ (fed start bytes).list
