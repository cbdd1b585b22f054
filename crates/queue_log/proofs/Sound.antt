-- Whatever is read builds its queue, which can be written.
use Rattle.std.proofs.Common.{◌≡◌, ℕ, ◌==◌, Bool, true, false, cond, ltb, List, [], ◌∷◌, ◌++◌, length, Option, Some, None, Result, Ok, Err, IfSome, refl}
use Rattle.queue_tx.specs.declared.error.ApplyError.{ApplyError}
use Rattle.queue_tx.specs.Operations.{Operation, new_ad, destroy_ad, set_attr, delete_attr}
use Rattle.queue_tx.specs.Queues.{KeyedAds, QueueOf, queue_after}
use Rattle.ad_parse.proofs.Reread.{again}
use Rattle.queue_record.specs.declared.error.RecordError.{RecordError}
use Rattle.queue_record.specs.declared.error.RecordError.TheVariants.{BadRecord, TooLong}
use Rattle.queue_record.specs.Entries.{Entry, begins, ends, does, stamped, entry_at}
use Rattle.queue_record.specs.Records.{SaysAfter}
use Rattle.queue_record.specs.ReadSoFar.{ReadSoFar, start, refused, refusal_of, counted, takes_in, after_entry, after_line, in_line, after_byte, fed}
use Rattle.queue_record.proofs.LogLemmas.{applies_push}
use Rattle.queue_record.proofs.RecordLemmas.{read_is_record}
use Rattle.queue_log.specs.Files.{IsSound}
use Rattle.queue_log.specs.Writable.{PutsWritable, AllPutWritable, IsWritableQueue}
use Rattle.queue_log.proofs.Writings.{writable_after}

-- ---- a line

says_puts : (p : Operation) (after : List ℕ) → SaysAfter (does p) after → PutsWritable p
says_puts (new_ad key kind other) after s = s.1.0.1.0.0
says_puts (destroy_ad key) after s = tt
says_puts (set_attr key name e) after s =
    let canonical = again s.expression e s.says in
    (s.key_is.0, s.name_fits, record { printable = canonical.spelled; short = canonical.short })
says_puts (delete_attr key name) after s = s.0.1.0.0

line_puts : (line : List ℕ) (p : Operation) → entry_at line ≡ Some (does p) → PutsWritable p
line_puts line p h = let r = read_is_record line (does p) h in says_puts p r.after r.says

push_puts : (os : List Operation) (o : Operation) → AllPutWritable os → PutsWritable o → AllPutWritable (os ++ o ∷ [])
push_puts [] o all one = (one, tt)
push_puts (p ∷ os) o all one = (all.0, push_puts os o all.1 one)

-- ---- what was read so far

refused_sound : (e : RecordError) → IsSound (refused e)
refused_sound e = record { builds = refl; writable = tt; puts_writable = tt }

takes_sound : (r : ReadSoFar) (ops : List Operation) (first : ℕ) (res : Result KeyedAds ApplyError) → QueueOf r.list r.queue → IsWritableQueue r.queue → AllPutWritable ops
    → queue_after r.queue ops ≡ res → IsSound (takes_in r ops first res)
takes_sound r ops first (Err f) builds writable puts is = refused_sound (refusal_of first f)
takes_sound r ops first (Ok q) builds writable puts is = record {
  builds = applies_push r.list ops r.queue q builds is;
  writable = writable_after r.queue q ops writable puts is;
  puts_writable = tt;
}

entry_sound : (r : ReadSoFar) (o : Option (List Operation)) (e : Option Entry) → QueueOf r.list r.queue → IsWritableQueue r.queue → IfSome o AllPutWritable → ((p : Operation) → e ≡ Some (does p) → PutsWritable p)
    → IsSound (after_entry r o e)
entry_sound r o None builds writable puts one = refused_sound (BadRecord r.line)
entry_sound r None (Some begins) builds writable puts one = record { builds = builds; writable = writable; puts_writable = tt }
entry_sound r (Some ops) (Some begins) builds writable puts one = refused_sound (BadRecord r.line)
entry_sound r None (Some ends) builds writable puts one = refused_sound (BadRecord r.line)
entry_sound r (Some ops) (Some ends) builds writable puts one = takes_sound r ops (counted r.begun 1) (queue_after r.queue ops) builds writable puts refl
entry_sound r None (Some (does p)) builds writable puts one = takes_sound r (p ∷ []) r.line (queue_after r.queue (p ∷ [])) builds writable (one p refl, tt) refl
entry_sound r (Some ops) (Some (does p)) builds writable puts one = record { builds = builds; writable = writable; puts_writable = push_puts ops p puts (one p refl) }
entry_sound r None (Some (stamped n)) builds writable puts one = record { builds = builds; writable = writable; puts_writable = tt }
entry_sound r (Some ops) (Some (stamped n)) builds writable puts one = refused_sound (BadRecord r.line)

line_sound : (r : ReadSoFar) (t : Bool) → IsSound r → IsSound (cond t (refused (TooLong r.line)) (after_entry r r.opened (entry_at r.part)))
line_sound r true s = refused_sound (TooLong r.line)
line_sound r false s = entry_sound r r.opened (entry_at r.part) s.builds s.writable s.puts_writable (line_puts r.part)

newline_sound : (r : ReadSoFar) (b : ℕ) (t : Bool) → IsSound r → IsSound (cond t (after_line r) (in_line r b))
newline_sound r b true s = line_sound r (ltb 16384 (length r.part)) s
newline_sound r b false s = record { builds = s.builds; writable = s.writable; puts_writable = s.puts_writable }

byte_sound : (o : Option RecordError) (r : ReadSoFar) (b : ℕ) → IsSound r → IsSound (after_byte o r b)
byte_sound None r b s = newline_sound r b (b == 10) s
byte_sound (Some e) r b s = s

pub sound_fed : (r : ReadSoFar) (bs : List ℕ) → IsSound r → IsSound (fed r bs)
sound_fed r [] s = s
sound_fed r (b ∷ bs) s = sound_fed (after_byte r.refusal r b) bs (byte_sound r.refusal r b s)

pub sound_start : IsSound start
sound_start = record { builds = refl; writable = tt; puts_writable = tt }
