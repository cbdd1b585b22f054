-- What the bytes of a log stand for, told of its whole lines, and which of them is bad.
use Rattle.std.specs.Prelude.{◌≡◌, ◌<◌, ℕ, ◌+◌, List, [], ◌∷◌, ◌++◌, length, Option, Some, None, Err}
use Rattle.ad_value.specs.Bytes.{code}
use Rattle.queue_tx.specs.declared.error.ApplyError.{ApplyError}
use Rattle.queue_tx.specs.Operations.{Operation}
use Rattle.queue_tx.specs.Queues.{KeyedAds, queue_after, QueueOf}
use Rattle.queue_record.specs.declared.entry.TheConstants.{MAX_LINE}
use Rattle.queue_record.specs.declared.error.RecordError.{RecordError}
use Rattle.queue_record.specs.declared.error.RecordError.TheVariants.{BadRecord, TooLong}
use Rattle.queue_record.specs.Entries.{Entry, begins, ends, does, stamped}
use Rattle.queue_record.specs.ReadSoFar.{ReadSoFar, counted, refusal_of, HasNoNewline}
use Rattle.queue_record.specs.Records.{IsShort, Record}

-- lines, each with its newline
abbrev pub lines_text : List (List ℕ) → List ℕ
lines_text [] = []
lines_text (line ∷ lines) = line ++ code "\n" ∷ lines_text lines

-- a line that says this
pub record IsEntryLine (line : List ℕ) (e : Entry) : Type 0 where
  pub one : HasNoNewline line
  pub short : IsShort line
  pub says : Record line e

-- lines that say these operations
abbrev pub AreOperations : List (List ℕ) → List Operation → Type 0
AreOperations [] [] = Unit {0}
AreOperations [] (o ∷ os) = ⊥
AreOperations (line ∷ lines) [] = ⊥
AreOperations (line ∷ lines) (o ∷ os) = IsEntryLine line (does o) × AreOperations lines os

-- Single lines, and lines from one `105` to its `106`: they say these transactions, in order, of
-- which a single operation is one, and this last sequence.
pub data AreWhole : List (List ℕ) → List (List Operation) → ℕ → Type 0 where
  nothing : AreWhole [] [] 0
  stamp : (lines : List (List ℕ)) (line : List ℕ) (txs : List (List Operation)) (n m : ℕ)
      → AreWhole lines txs n → IsEntryLine line (stamped m)
      → AreWhole (lines ++ line ∷ []) txs m
  single : (lines : List (List ℕ)) (line : List ℕ) (txs : List (List Operation)) (n : ℕ)
      (o : Operation)
      → AreWhole lines txs n → IsEntryLine line (does o)
      → AreWhole (lines ++ line ∷ []) (txs ++ (o ∷ []) ∷ []) n
  several : (lines inner : List (List ℕ)) (first last : List ℕ) (txs : List (List Operation))
      (n : ℕ) (os : List Operation)
      → AreWhole lines txs n → IsEntryLine first begins → AreOperations inner os
      → IsEntryLine last ends
      → AreWhole (lines ++ first ∷ (inner ++ last ∷ [])) (txs ++ os ∷ []) n

-- the lines of a transaction that is open, if one is
abbrev pub AreOpen : List (List ℕ) → Option (List Operation) → Type 0
AreOpen [] None = Unit {0}
AreOpen [] (Some os) = ⊥
AreOpen (first ∷ inner) None = ⊥
AreOpen (first ∷ inner) (Some os) = IsEntryLine first begins × AreOperations inner os

-- The bytes are whole lines, then perhaps the lines of an open transaction, then a rest without
-- newline. What the first say counts, and the others are dropped.
pub record StandsFor (bytes : List ℕ) (txs : List (List Operation)) (queue : KeyedAds)
    (whole sequence : ℕ) : Type 0 where
  pub lines : List (List ℕ)
  pub unended : List (List ℕ)
  pub opened : Option (List Operation)
  pub rest : List ℕ
  pub parts : bytes ≡ (lines_text lines ++ lines_text unended) ++ rest
  pub torn : HasNoNewline rest
  pub are_whole : AreWhole lines txs sequence
  pub are_open : AreOpen unended opened
  pub applies : QueueOf txs queue
  pub sized : whole ≡ counted 0 (length (lines_text lines))

-- a record that may not stand where a transaction is open, or where none is
abbrev pub IsMisplaced : Option (List Operation) → Entry → Type 0
IsMisplaced None ends = Unit {0}
IsMisplaced None e = ⊥
IsMisplaced (Some os) begins = Unit {0}
IsMisplaced (Some os) (stamped n) = Unit {0}
IsMisplaced (Some os) e = ⊥

-- Why a line of this number is bad behind what was read so far, where the operations of the open
-- transaction begin on the second number: it is too long; no record; in a wrong place; a single
-- operation, or the end of operations, of which one can't be done.
pub data IsCause (line : List ℕ) (number first : ℕ) (opened : Option (List Operation))
    (queue : KeyedAds) : RecordError → Type 0 where
  long : MAX_LINE < length line → IsCause line number first opened queue (TooLong number)
  no_record : IsShort line → ((e : Entry) → Record line e → ⊥)
      → IsCause line number first opened queue (BadRecord number)
  misplaced : (e : Entry) → IsEntryLine line e → IsMisplaced opened e
      → IsCause line number first opened queue (BadRecord number)
  alone : (o : Operation) (f : ApplyError) → opened ≡ None → IsEntryLine line (does o)
      → queue_after queue (o ∷ []) ≡ Err f
      → IsCause line number first opened queue (refusal_of number f)
  together : (os : List Operation) (f : ApplyError) → opened ≡ Some os → IsEntryLine line ends
      → queue_after queue os ≡ Err f
      → IsCause line number first opened queue (refusal_of first f)

-- the first bad line: what stands before it is as in a log that is not bad
pub record IsBadLog (bytes : List ℕ) (e : RecordError) : Type 0 where
  pub lines : List (List ℕ)
  pub unended : List (List ℕ)
  pub opened : Option (List Operation)
  pub txs : List (List Operation)
  pub sequence : ℕ
  pub queue : KeyedAds
  pub line : List ℕ
  pub after : List ℕ
  pub parts : bytes ≡ (lines_text lines ++ lines_text unended) ++ (line ++ code "\n" ∷ after)
  pub are_whole : AreWhole lines txs sequence
  pub are_open : AreOpen unended opened
  pub applies : QueueOf txs queue
  pub one : HasNoNewline line
  pub cause : IsCause line (counted 1 (length lines + length unended))
      (counted 1 (length lines + 1)) opened queue e

-- ---- behind a transaction, and behind a beginning of one

-- whole lines were read, and no transaction is open
pub record IsAtRest (r : ReadSoFar) : Type 0 where
  pub good : r.refusal ≡ None
  pub no_part : r.part ≡ []
  pub none_open : r.opened ≡ None

-- the transaction is the last on the list, and nothing is open
pub record Settles (old new : ReadSoFar) (os : List Operation) (q : KeyedAds) : Type 0 where
  pub at_rest : IsAtRest new
  pub listed : new.list ≡ old.list ++ os ∷ []
  pub queued : new.queue ≡ q
  pub sequenced : new.sequence ≡ old.sequence
  pub sized : new.whole ≡ new.size

-- what counts stays the same
pub record Stays (old new : ReadSoFar) : Type 0 where
  pub good : new.refusal ≡ None
  pub listed : new.list ≡ old.list
  pub queued : new.queue ≡ old.queue
  pub wholly : new.whole ≡ old.whole
  pub sequenced : new.sequence ≡ old.sequence
