-- What the bytes of a log stand for, byte by byte.
use Rattle.std.specs.Prelude.{◌≡◌, ◌≢◌, ℕ, ◌+◌, ◌-◌, ◌^◌, ◌==◌, not, min, nat_lt, IsTrue, List, [], ◌∷◌, ◌++◌, length, Option, Some, None, Result, Ok, Err, if◌then◌else◌}
use Rattle.std.specs.List.{list_all}
use Rattle.ad_value.specs.Bytes.{code}
use Rattle.queue_tx.specs.declared.error.ApplyError.{ApplyError}
use Rattle.queue_tx.specs.declared.error.ApplyError.TheVariants as fault
use Rattle.queue_tx.specs.Operations.{Operation}
use Rattle.queue_tx.specs.Queues.{KeyedAds, queue_after}
use Rattle.queue_record.specs.declared.entry.TheConstants.{MAX_LINE}
use Rattle.queue_record.specs.declared.error.RecordError.{RecordError}
use Rattle.queue_record.specs.declared.error.RecordError.TheVariants.{BadRecord, TooLong, Memory}
use Rattle.queue_record.specs.Entries.{Entry, begins, ends, does, stamped, entry_at}

-- a log that was read so far
pub record ReadSoFar : Type 0 where
  -- the transactions that have their end, and the queue that they build
  pub list : List (List Operation)
  pub queue : KeyedAds
  -- the operations of the transaction that is open, and the line on which it begins
  pub opened : Option (List Operation)
  pub begun : ℕ
  -- the line that is not at its end
  pub line : ℕ
  pub part : List ℕ
  -- how many bytes were read, and up to the end of the last transaction or single line
  pub size : ℕ
  pub whole : ℕ
  pub sequence : ℕ
  pub refusal : Option RecordError

abbrev pub start : ReadSoFar
start = record {
  list = [];
  queue = [];
  opened = None;
  begun = 0;
  line = 1;
  part = [];
  size = 0;
  whole = 0;
  sequence = 0;
  refusal = None;
}

-- nothing of what was read counts any more
abbrev pub refused : RecordError → ReadSoFar
refused e = record {
  list = [];
  queue = [];
  opened = None;
  begun = 0;
  line = 0;
  part = [];
  size = 0;
  whole = 0;
  sequence = 0;
  refusal = Some e;
}

-- counts stop at the greatest number of 64 bits
abbrev pub counted : ℕ → ℕ → ℕ
counted n k = min (n + k) (2 ^ 64 - 1)

-- ---- past the end of a line

-- the next line of a transaction that is open, or of none
abbrev pub goes_on : ReadSoFar → Option (List Operation) → ℕ → ReadSoFar
goes_on r o n = record {
  list = r.list;
  queue = r.queue;
  opened = o;
  begun = n;
  line = counted r.line 1;
  part = [];
  size = counted r.size 1;
  whole = r.whole;
  sequence = r.sequence;
  refusal = None;
}

-- behind a single line with the sequence
abbrev pub stamps : ReadSoFar → ℕ → ReadSoFar
stamps r n = record {
  list = r.list;
  queue = r.queue;
  opened = None;
  begun = 0;
  line = counted r.line 1;
  part = [];
  size = counted r.size 1;
  whole = counted r.size 1;
  sequence = n;
  refusal = None;
}

-- why the line of an operation is refused, where the first of its transaction stands on this one
abbrev pub refusal_of : ℕ → ApplyError → RecordError
refusal_of first (fault.NoKey n) = BadRecord (counted first n)
refusal_of first (fault.KeyThere n) = BadRecord (counted first n)
refusal_of first (fault.Full n) = BadRecord (counted first n)
refusal_of first fault.Memory = Memory

-- behind a transaction whose first operation stands on this line
abbrev pub takes_in : ReadSoFar → List Operation → ℕ → Result KeyedAds ApplyError → ReadSoFar
takes_in r ops first (Err e) = refused (refusal_of first e)
takes_in r ops first (Ok q) = record {
  list = r.list ++ ops ∷ [];
  queue = q;
  opened = None;
  begun = 0;
  line = counted r.line 1;
  part = [];
  size = counted r.size 1;
  whole = counted r.size 1;
  sequence = r.sequence;
  refusal = None;
}

-- a line that says this, where a transaction is open or none is
abbrev pub after_entry : ReadSoFar → Option (List Operation) → Option Entry → ReadSoFar
after_entry r o None = refused (BadRecord r.line)
after_entry r None (Some begins) = goes_on r (Some []) r.line
after_entry r (Some ops) (Some begins) = refused (BadRecord r.line)
after_entry r None (Some ends) = refused (BadRecord r.line)
after_entry r (Some ops) (Some ends) =
    takes_in r ops (counted r.begun 1) (queue_after r.queue ops)
after_entry r None (Some (does o)) =
    takes_in r (o ∷ []) r.line (queue_after r.queue (o ∷ []))
after_entry r (Some ops) (Some (does o)) = goes_on r (Some (ops ++ o ∷ [])) r.begun
after_entry r None (Some (stamped n)) = stamps r n
after_entry r (Some ops) (Some (stamped n)) = refused (BadRecord r.line)

abbrev pub after_line : ReadSoFar → ReadSoFar
after_line r =
    if nat_lt MAX_LINE (length r.part) then refused (TooLong r.line)
    else after_entry r r.opened (entry_at r.part)

-- ---- bytes

-- with a byte more; of a line that is too long no more is kept
abbrev pub kept_part : List ℕ → ℕ → List ℕ
kept_part part b = if nat_lt MAX_LINE (length part) then part else part ++ b ∷ []

abbrev pub in_line : ReadSoFar → ℕ → ReadSoFar
in_line r b = record {
  list = r.list;
  queue = r.queue;
  opened = r.opened;
  begun = r.begun;
  line = r.line;
  part = kept_part r.part b;
  size = counted r.size 1;
  whole = r.whole;
  sequence = r.sequence;
  refusal = None;
}

abbrev pub after_byte : Option RecordError → ReadSoFar → ℕ → ReadSoFar
after_byte (Some e) r b = r
after_byte None r b = if b == code "\n" then after_line r else in_line r b

abbrev pub fed : ReadSoFar → List ℕ → ReadSoFar
fed r [] = r
fed r (b ∷ bs) = fed (after_byte r.refusal r b) bs

abbrev pub HasNoNewline : List ℕ → Type 0
HasNoNewline bytes = IsTrue (list_all (λ b. not (b == code "\n")) bytes)

-- the same for bytes of one line
abbrev pub kept_all : List ℕ → List ℕ → List ℕ
kept_all part [] = part
kept_all part (b ∷ bs) = kept_all (kept_part part b) bs

abbrev pub counted_all : ℕ → List ℕ → ℕ
counted_all n [] = n
counted_all n (b ∷ bs) = counted_all (counted n 1) bs

abbrev pub with_bytes : ReadSoFar → List ℕ → ReadSoFar
with_bytes r bs = record {
  list = r.list;
  queue = r.queue;
  opened = r.opened;
  begun = r.begun;
  line = r.line;
  part = kept_all r.part bs;
  size = counted_all r.size bs;
  whole = r.whole;
  sequence = r.sequence;
  refusal = None;
}

-- ---- what a call gives

-- The reading is this one, or keeps nothing but the refusal; out of memory comes at any place.
abbrev pub Gives : {T : Type 0} → Result T RecordError → ReadSoFar → ReadSoFar → Type 0
Gives (Ok u) new r = (new ≡ r) × (new.refusal ≡ None)
Gives (Err e) new r = (new ≡ refused e) × (e ≢ Memory → r ≡ refused e)
