-- What is read of a log's file.
use Rattle.std.specs.Prelude.{◌≡◌, ℕ, List, take, drop, Some, None, IfSome}
use Rattle.pool_outer.specs.Cause.{Rose}
use Rattle.queue_tx.specs.Queues.{QueueOf}
use Rattle.queue_record.specs.ReadSoFar.{ReadSoFar, start, fed}
use Rattle.queue_record.specs.declared.reader.ReadLog.{ReadLog}
use Rattle.queue_log.specs.declared.error.LogError.{LogError}
use Rattle.queue_log.specs.declared.error.LogError.TheVariants.{BadRecord, Limit, Disk, Memory}
use Rattle.queue_log.specs.Stands.{line_of}
use Rattle.queue_log.specs.Writable.{IsWritableQueue, AllPutWritable}

-- what holds of whatever was read, however it came about: the queue is that of the list, and what
-- is in it can be written
pub record IsSound (r : ReadSoFar) : Type 0 where
  pub builds : QueueOf r.list r.queue
  pub writable : IsWritableQueue r.queue
  pub puts_writable : IfSome r.opened AllPutWritable

-- what a reader gives of these bytes
pub record IsReadOf (bytes : List ℕ) (log : ReadLog) : Type 0 where
  pub good : (fed start bytes).refusal ≡ None
  pub listed : log.list ≡ (fed start bytes).list
  pub queued : log.queue ≡ (fed start bytes).queue
  pub wholly : log.whole ≡ (fed start bytes).whole
  pub sequenced : log.sequence ≡ (fed start bytes).sequence

-- a piece of bytes from a place on makes a reading one with a bad line
pub record MeetsBadLine (r : ReadSoFar) (bytes : List ℕ) (place line : ℕ) : Type 0 where
  pub count : ℕ
  pub bad : line_of (fed r (take count (drop place bytes))).refusal ≡ Some line

-- Why reading stops: the bytes that are read have a bad line, a store's count of faults has risen,
-- or memory has run out.
abbrev pub IsReadRefusal : (ℕ → Type 0) → ℕ → ℕ → LogError → Type 0
IsReadRefusal bad before now (BadRecord line) = bad line
IsReadRefusal bad before now (Limit which) = ⊥
IsReadRefusal bad before now Disk = Rose before now
IsReadRefusal bad before now Memory = Unit {0}
