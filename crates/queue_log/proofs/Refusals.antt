-- What becomes of the refusals of a log's parts.
use Rattle.std.proofs.Common.{◌≡◌, ◌≢◌, ◌≤◌, ◌∙◌, ℕ, Bool, true, List, take, drop, Err, refl, sym, ap, subst, arith, true≢false}
use Rattle.pool_outer.specs.declared.limit.Which.TheVariants as which
use Rattle.pool_outer.specs.declared.store.StoreError.{StoreError}
use Rattle.pool_outer.specs.declared.store.StoreError.TheVariants as store
use Rattle.queue_record.specs.declared.error.PrintError.{PrintError}
use Rattle.queue_record.specs.declared.error.PrintError.TheVariants as print
use Rattle.queue_record.specs.declared.error.RecordError.{RecordError}
use Rattle.queue_record.specs.declared.error.RecordError.TheVariants as line
use Rattle.receipt_roll.specs.declared.error.RollError.{RollError}
use Rattle.receipt_roll.specs.declared.error.RollError.TheVariants as roll
use Rattle.pool_outer.specs.Cause.{HasCause, Rose}
use Rattle.pool_outer.specs.Files.{Contents, Misses, Names}
use Rattle.queue_record.specs.ReadSoFar.{ReadSoFar, fed, refused}
use Rattle.queue_log.specs.declared.error.LogError.{LogError}
use Rattle.queue_log.specs.declared.error.LogError.TheVariants.{BadRecord, Limit, Disk, Memory}
use Rattle.queue_log.specs.Files.{IsReadRefusal, MeetsBadLine}
use Rattle.queue_log.specs.Stands.{line_of}
use Rattle.queue_log.specs.Errors.{of_print, of_record, of_roll, of_store}

pub by_store : (Q : LogError → Type 0) (e : StoreError) → (e ≡ store.Missing → ⊥) → (e ≡ store.Failed → Q Disk) → Q Memory → Q (of_store e)
by_store Q store.Missing none failed memory = absurd (none refl)
by_store Q store.Failed none failed memory = failed refl
by_store Q store.Memory none failed memory = memory

pub by_record : (Q : LogError → Type 0) (e : RecordError) → ((n : ℕ) → e ≡ line.BadRecord n → Q (BadRecord n)) → ((n : ℕ) → e ≡ line.TooLong n → Q (BadRecord n)) → Q Memory → Q (of_record e)
by_record Q (line.BadRecord n) bad long memory = bad n refl
by_record Q (line.TooLong n) bad long memory = long n refl
by_record Q line.Memory bad long memory = memory

pub by_print : (Q : LogError → Type 0) (e : PrintError) → ((op : ℕ) → e ≡ print.TooLong op → Q (Limit which.LogLine)) → Q Memory → Q (of_print e)
by_print Q (print.TooLong op) long memory = long op refl
by_print Q print.Memory long memory = memory

pub by_roll : (Q : LogError → Type 0) (e : RollError) → (e ≡ roll.Full → Q (Limit which.Roll)) → Q Memory → Q (of_roll e)
by_roll Q roll.Full full memory = full refl
by_roll Q roll.Memory full memory = memory

-- the same refusal, of a longer run
pub refusal_on : (bad bad' : ℕ → Type 0) (before before' now : ℕ) (e : LogError) → ((n : ℕ) → bad n → bad' n) → before' ≤ before → IsReadRefusal bad before now e → IsReadRefusal bad' before' now e
refusal_on bad bad' before before' now (BadRecord n) f le h = f n h
refusal_on bad bad' before before' now (Limit w) f le h = h
refusal_on bad bad' before before' now Disk f le h = omega arith
refusal_on bad bad' before before' now Memory f le h = tt

-- a name that is known is not missed
pub not_missed : {T : Type 0} (tells : Bool) (file : Contents) (known : Names) (name : List ℕ) (e : StoreError) → known name ≡ true → Misses {T = T} tells file known name (Err e) → e ≡ store.Missing → ⊥
not_missed tells file known name e is m missing = true≢false (sym is ∙ m.unknown (ap Err missing))

-- a call of the store has failed
pub store_refused : {T : Type 0} (bad : ℕ → Type 0) (before before' now : ℕ) (e : StoreError) (r : LogError) → before' ≤ before → r ≡ of_store e → (e ≡ store.Missing → ⊥) → HasCause {T = T} store.Failed before now (Err e) → IsReadRefusal bad before' now r
store_refused bad before before' now e r le is there cause =
    subst (IsReadRefusal bad before' now) (sym is)
    (by_store (IsReadRefusal bad before' now) e there (λ failed. (let rose : Rose before now = cause.rose (ap Err failed) in omega arith)) tt)

-- a piece has a bad line
pub feed_refused : (reader : ReadSoFar) (bytes piece : List ℕ) (count place before now : ℕ) (tells : Bool) (e : RecordError) (r : LogError) → r ≡ of_record e → (e ≢ line.Memory → fed reader piece ≡ refused e)
    → (tells ≡ true → piece ≡ take count (drop place bytes)) → IsReadRefusal (λ n. tells ≡ true → MeetsBadLine reader bytes place n) before now r
feed_refused reader bytes piece count place before now tells e r is stuck same =
    subst (IsReadRefusal (λ n. tells ≡ true → MeetsBadLine reader bytes place n) before now) (sym is)
    (by_record (IsReadRefusal (λ n. tells ≡ true → MeetsBadLine reader bytes place n) before now) e (λ n bad. met n (line.BadRecord n) bad refl (λ m. (let clash : line.BadRecord n ≡ line.Memory = sym bad ∙ m in cc clash)))
    (λ n long. met n (line.TooLong n) long refl (λ m. (let clash : line.TooLong n ≡ line.Memory = sym long ∙ m in cc clash))) tt)
  where
    met : (n : ℕ) (l : RecordError) → e ≡ l → line_of (refused l).refusal ≡ line_of (refused (line.BadRecord n)).refusal → (e ≡ line.Memory → ⊥) → tells ≡ true → MeetsBadLine reader bytes place n
    met n l bad says other t = record {
      count = count;
      bad = ap (λ z. line_of (fed reader z).refusal) (sym (same t)) ∙ ap (λ (s : ReadSoFar). line_of s.refusal) (stuck other) ∙ ap (λ z. line_of (refused z).refusal) bad ∙ says;
    }
