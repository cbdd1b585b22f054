-- What a log begins with.
use Rattle.std.proofs.Common.{◌≡◌, ℕ, ◌<◌, ◌≤◌, ◌^◌, true, Bool, List, [], ◌∷◌, ◌++◌, length, take, Option, Some, None, refl, ap, sym, ◌∙◌, subst, arith}
use Rattle.pool_outer.specs.Files.{IsImage, bytes_in}
use Rattle.receipt_roll.specs.declared.roll.TheConstants.{MAX_ITEMS}
use Rattle.pool_outer.specs.declared.limit.Which.TheVariants.{Machines, Slots, Jobs, Attributes, LogLine, Input, Bytes, Roll, Events, Users, Boots}
use Rattle.queue_tx.specs.Queues.{KeyedAds}
use Rattle.queue_record.specs.declared.error.RecordError.{RecordError}
use Rattle.queue_record.specs.declared.error.RecordError.TheVariants as line
use Rattle.queue_record.specs.declared.reader.ReadLog.{ReadLog}
use Rattle.queue_record.specs.ReadSoFar.{start, fed}
use Rattle.queue_log.specs.declared.error.LogError.{LogError}
use Rattle.queue_log.specs.declared.error.LogError.TheVariants.{BadRecord, Limit, Disk, Memory}
use Rattle.queue_log.specs.declared.recover.Opening.{Opening}
use Rattle.queue_log.specs.Files.{IsReadOf, IsReadRefusal}
use Rattle.queue_log.specs.Logged.{IsTooMany}
use Rattle.queue_log.specs.Logs.{IsOpened, IsRecoverRefused, IsWhole}
use Rattle.queue_log.specs.NewLog.{new_log_text, new_log_tx, opening_of}
use Rattle.queue_log.specs.Stands.{IsSettled, Stands, bad_line, line_of}
use Rattle.queue_log.proofs.Readings.{cut_settles, take_length}
use Rattle.queue_log.proofs.Settled.{image_whole, settled_stands}

none_refused : (o : Option RecordError) → line_of o ≡ None → o ≡ None
none_refused None h = refl
none_refused (Some (line.BadRecord n)) h = absurd (cc h)
none_refused (Some (line.TooLong n)) h = absurd (cc h)
none_refused (Some line.Memory) h = absurd (cc h)

pub good_bytes : (bytes : List ℕ) → bad_line bytes ≡ None → (fed start bytes).refusal ≡ None
good_bytes bytes h = none_refused (fed start bytes).refusal h

pub opening_is : (bytes : List ℕ) (reading : ℕ) → 0 < length bytes → opening_of bytes reading ≡ bytes
opening_is [] reading some = absurd (omega arith)
opening_is (b ∷ bytes) reading some = refl

pub opening_new : (bytes : List ℕ) (reading : ℕ) → length bytes ≡ 0 → opening_of bytes reading ≡ new_log_text reading
opening_new [] reading none = refl
opening_new (b ∷ bytes) reading none = absurd (omega arith)

-- ---- a file that is there

module _ (bytes : List ℕ) (small : length bytes < 2 ^ 64) (log : ReadLog) (read : IsReadOf bytes log) where
  pub whole_within : log.whole ≤ length bytes
  whole_within = let c = cut_settles bytes small read.good in let w = c.within in let e = read.wholly in omega arith

  cut_whole : (new : List ℕ) (solid : ℕ) → new ≡ take log.whole bytes → log.whole ≤ solid → IsWhole log.list log.queue new solid
  cut_whole new solid is durable =
      let c = cut_settles bytes small read.good in
      let cut_is : new ≡ take (fed start bytes).whole bytes = is ∙ ap (λ n. take n bytes) read.wholly in
      let s = subst (λ z. IsSettled (fed start bytes).list (fed start bytes).queue z) (sym cut_is) c.settled in
      let long = ap length is in
      let cut = take_length log.whole bytes whole_within in
      record { settled = record { at_rest = s.at_rest; listed = s.listed ∙ sym read.listed; queued = s.queued ∙ sym read.queued }; durable = omega arith }

  pub opened_by : (new : List ℕ) (solid reading : ℕ) (opening : Opening) → 0 < length bytes → new ≡ take log.whole bytes → log.whole ≤ solid
      → opening.logged.list ≡ log.list → opening.logged.queue ≡ log.queue → opening.sequence ≡ log.sequence → IsOpened bytes new solid reading opening
  opened_by new solid reading opening some is durable list queue sequence =
      let same = sym (opening_is bytes reading some) in
      let w = cut_whole new solid is durable in
      record {
        recovered = record {
          good = ap bad_line (sym same) ∙ ap line_of read.good;
          listed = list ∙ read.listed ∙ ap (λ z. (fed start z).list) same;
          queued = queue ∙ read.queued ∙ ap (λ z. (fed start z).queue) same;
          sequenced = sequence ∙ read.sequenced ∙ ap (λ z. (fed start z).sequence) same;
          cut = λ more. is ∙ ap (λ n. take n bytes) read.wholly;
          made = λ none. absurd (omega arith);
        };
        whole = record { settled = record { at_rest = w.settled.at_rest; listed = w.settled.listed ∙ sym list; queued = w.settled.queued ∙ sym queue }; durable = w.durable };
      }

  -- what a stop leaves of it once it is cut
  pub image_after : (new image : List ℕ) (solid : ℕ) → new ≡ take log.whole bytes → log.whole ≤ solid → IsImage solid new image → Stands (fed start bytes).list image
  image_after new image solid is durable i =
      let w = cut_whole new solid is durable in
      let s = subst (λ z. Stands log.list z) (sym (image_whole new image solid w.durable i)) (settled_stands log.list log.queue new w.settled) in
      record { good = s.good; listed = s.listed ∙ read.listed }

-- ---- a file that is made

pub nothing_before : (xs ys : List ℕ) → length xs ≡ 0 → xs ++ ys ≡ ys
nothing_before [] ys none = refl
nothing_before (x ∷ xs) ys none = absurd (omega arith)

pub begun_by : (old new : List ℕ) (solid reading : ℕ) (queue : KeyedAds) (opening : Opening) → length old ≡ 0 → new ≡ new_log_text reading → length new ≤ solid
    → IsSettled (new_log_tx ∷ []) queue (new_log_text reading) → (fed start (new_log_text reading)).sequence ≡ 1
    → opening.logged.list ≡ new_log_tx ∷ [] → opening.logged.queue ≡ queue → opening.sequence ≡ 1 → IsOpened old new solid reading opening
begun_by old new solid reading queue opening none is durable settled stamped list queued sequence =
    let same = sym (opening_new old reading none) in
    let s = subst (λ z. IsSettled (new_log_tx ∷ []) queue z) (sym is) settled in
    record {
      recovered = record {
        good = ap bad_line (sym same) ∙ ap line_of settled.at_rest.good;
        listed = list ∙ sym settled.listed ∙ ap (λ z. (fed start z).list) same;
        queued = queued ∙ sym settled.queued ∙ ap (λ z. (fed start z).queue) same;
        sequenced = sequence ∙ sym stamped ∙ ap (λ z. (fed start z).sequence) same;
        cut = λ more. absurd (omega arith);
        made = λ empty. is;
      };
      whole = record { settled = record { at_rest = s.at_rest; listed = s.listed ∙ sym list; queued = s.queued ∙ sym queued }; durable = durable };
    }

-- why it can't be kept
pub too_many : (tells : Bool) (bytes : List ℕ) (log : ReadLog) (before now : ℕ) (e : LogError) → (tells ≡ true → IsReadOf bytes log) → IsTooMany log.list e → IsRecoverRefused tells bytes before now e
too_many tells bytes log before now (Limit Roll) read h = λ t. (ap line_of (read t).good, (let e = ap length (read t).listed in omega arith))
too_many tells bytes log before now Memory read h = tt
too_many tells bytes log before now (BadRecord n) read h = absurd h
too_many tells bytes log before now Disk read h = absurd h
too_many tells bytes log before now (Limit Machines) read h = absurd h
too_many tells bytes log before now (Limit Slots) read h = absurd h
too_many tells bytes log before now (Limit Jobs) read h = absurd h
too_many tells bytes log before now (Limit Attributes) read h = absurd h
too_many tells bytes log before now (Limit LogLine) read h = absurd h
too_many tells bytes log before now (Limit Input) read h = absurd h
too_many tells bytes log before now (Limit Bytes) read h = absurd h
too_many tells bytes log before now (Limit Events) read h = absurd h
too_many tells bytes log before now (Limit Users) read h = absurd h
too_many tells bytes log before now (Limit Boots) read h = absurd h

-- why it can't be read
pub read_refused : (tells : Bool) (bytes : List ℕ) (before now : ℕ) (e : LogError) → IsReadRefusal (λ n. tells ≡ true → bad_line bytes ≡ Some n) before now e → IsRecoverRefused tells bytes before now e
read_refused tells bytes before now (BadRecord n) h = h
read_refused tells bytes before now (Limit w) h = absurd h
read_refused tells bytes before now Disk h = h
read_refused tells bytes before now Memory h = tt

-- the same of a longer run, whose store tells as much and whose file is the same
pub recover_refused : (tells tells' : Bool) (file file' : Option (List ℕ)) (before before' now : ℕ) (e : LogError) → tells' ≡ tells → (tells ≡ true → file' ≡ file) → before ≤ before'
    → IsRecoverRefused tells' (bytes_in file') before' now e → IsRecoverRefused tells (bytes_in file) before now e
recover_refused tells tells' file file' before before' now (BadRecord n) told same le h = λ t. subst (λ f. bad_line (bytes_in f) ≡ Some n) (same t) (h (told ∙ t))
recover_refused tells tells' file file' before before' now (Limit Roll) told same le h =
    λ t. subst (λ f. (bad_line (bytes_in f) ≡ None) × (MAX_ITEMS < length (fed start (bytes_in f)).list)) (same t) (h (told ∙ t))
recover_refused tells tells' file file' before before' now Disk told same le h = omega arith
recover_refused tells tells' file file' before before' now Memory told same le h = tt
recover_refused tells tells' file file' before before' now (Limit Machines) told same le h = h
recover_refused tells tells' file file' before before' now (Limit Slots) told same le h = h
recover_refused tells tells' file file' before before' now (Limit Jobs) told same le h = h
recover_refused tells tells' file file' before before' now (Limit Attributes) told same le h = h
recover_refused tells tells' file file' before before' now (Limit LogLine) told same le h = h
recover_refused tells tells' file file' before before' now (Limit Input) told same le h = h
recover_refused tells tells' file file' before before' now (Limit Bytes) told same le h = h
recover_refused tells tells' file file' before before' now (Limit Events) told same le h = h
recover_refused tells tells' file file' before before' now (Limit Users) told same le h = h
recover_refused tells tells' file file' before before' now (Limit Boots) told same le h = h
