-- What stands behind the last whole transaction counts for nothing.
use Rattle.std.proofs.Common.{◌≡◌, ◌⊎◌, inl, inr, ℕ, zero, suc, ◌+◌, ◌-◌, ◌<◌, ◌≤◌, ◌^◌, ◌==◌, min, Bool, true, false, cond, ltb, List, [], ◌∷◌, ◌++◌, length, take, drop, Option, Some, None, Result, Ok, Err, refl, ap, sym, ◌∙◌, subst, arith, append_assoc, length-append}
use Rattle.std.proofs.lemmas.List.{append-nil}
use Rattle.queue_tx.specs.declared.error.ApplyError.{ApplyError}
use Rattle.queue_tx.specs.Operations.{Operation}
use Rattle.queue_tx.specs.Queues.{KeyedAds, queue_after}
use Rattle.queue_record.specs.declared.error.RecordError.{RecordError}
use Rattle.queue_record.specs.declared.error.RecordError.TheVariants.{TooLong}
use Rattle.queue_record.specs.Entries.{Entry, begins, ends, does, stamped, entry_at}
use Rattle.queue_record.specs.ReadSoFar.{ReadSoFar, start, refused, counted, counted_all, takes_in, after_entry, after_line, in_line, after_byte, fed}
use Rattle.queue_record.specs.Logs.{IsAtRest, Stays}
use Rattle.queue_record.proofs.Feeding.{fed_append, counted_is}
use Rattle.queue_log.specs.Stands.{Stands, IsSettled}

-- ---- refusals stay

still : (o : Option RecordError) (r : ReadSoFar) (b : ℕ) (e : RecordError) → o ≡ Some e → after_byte o r b ≡ r
still None r b e h = absurd (cc h)
still (Some f) r b e h = refl

pub refused_stays : (r : ReadSoFar) (bs : List ℕ) (e : RecordError) → r.refusal ≡ Some e → fed r bs ≡ r
refused_stays r [] e h = refl
refused_stays r (b ∷ bs) e h = ap (λ (s : ReadSoFar). fed s bs) (still r.refusal r b e h) ∙ refused_stays r bs e h

pub good_before : (r : ReadSoFar) (bs : List ℕ) → (fed r bs).refusal ≡ None → r.refusal ≡ None
good_before r bs good = by r.refusal refl
  where
    by : (o : Option RecordError) → r.refusal ≡ o → r.refusal ≡ None
    by None e = e
    by (Some f) e =
        let clash : None ≡ Some f = sym good ∙ ap (λ (s : ReadSoFar). s.refusal) (refused_stays r bs f e) ∙ e in
        absurd (cc clash)

-- ---- what a byte does

-- whole lines are read, and they are what counts
record Ends (s : ReadSoFar) : Type 0 where
  rest : IsAtRest s
  wholly : s.whole ≡ s.size

record Kind (r s : ReadSoFar) : Type 0 where
  sized : s.size ≡ counted r.size 1
  kind : Stays r s ⊎ Ends s

ended : (r s : ReadSoFar) → s.size ≡ counted r.size 1 → s.refusal ≡ None → s.part ≡ [] → s.opened ≡ None → s.whole ≡ s.size → Kind r s
ended r s size good none opened wholly = record { sized = size; kind = inr (record { rest = record { good = good; no_part = none; none_open = opened }; wholly = wholly }) }

stayed : (r s : ReadSoFar) → s.size ≡ counted r.size 1 → s.refusal ≡ None → s.list ≡ r.list → s.queue ≡ r.queue → s.whole ≡ r.whole → s.sequence ≡ r.sequence → Kind r s
stayed r s size good list queue whole sequence = record { sized = size; kind = inl (record { good = good; listed = list; queued = queue; wholly = whole; sequenced = sequence }) }

takes_kind : (r : ReadSoFar) (ops : List Operation) (first : ℕ) (res : Result KeyedAds ApplyError) → (takes_in r ops first res).refusal ≡ None → Kind r (takes_in r ops first res)
takes_kind r ops first (Err f) good = absurd (cc good)
takes_kind r ops first (Ok q) good = ended r (takes_in r ops first (Ok q)) refl refl refl refl refl

entry_kind : (r : ReadSoFar) (o : Option (List Operation)) (e : Option Entry) → (after_entry r o e).refusal ≡ None → Kind r (after_entry r o e)
entry_kind r o None good = absurd (cc good)
entry_kind r None (Some begins) good = stayed r (after_entry r None (Some begins)) refl refl refl refl refl refl
entry_kind r (Some ops) (Some begins) good = absurd (cc good)
entry_kind r None (Some ends) good = absurd (cc good)
entry_kind r (Some ops) (Some ends) good = takes_kind r ops (counted r.begun 1) (queue_after r.queue ops) good
entry_kind r None (Some (does p)) good = takes_kind r (p ∷ []) r.line (queue_after r.queue (p ∷ [])) good
entry_kind r (Some ops) (Some (does p)) good = stayed r (after_entry r (Some ops) (Some (does p))) refl refl refl refl refl refl
entry_kind r None (Some (stamped n)) good = ended r (after_entry r None (Some (stamped n))) refl refl refl refl refl
entry_kind r (Some ops) (Some (stamped n)) good = absurd (cc good)

line_kind : (r : ReadSoFar) (t : Bool) → (cond t (refused (TooLong r.line)) (after_entry r r.opened (entry_at r.part))).refusal ≡ None
    → Kind r (cond t (refused (TooLong r.line)) (after_entry r r.opened (entry_at r.part)))
line_kind r true good = absurd (cc good)
line_kind r false good = entry_kind r r.opened (entry_at r.part) good

newline_kind : (r : ReadSoFar) (b : ℕ) (t : Bool) → (cond t (after_line r) (in_line r b)).refusal ≡ None → Kind r (cond t (after_line r) (in_line r b))
newline_kind r b true good = line_kind r (ltb 16384 (length r.part)) good
newline_kind r b false good = stayed r (in_line r b) refl refl refl refl refl refl

byte_kind : (o : Option RecordError) (r : ReadSoFar) (b : ℕ) → (after_byte o r b).refusal ≡ None → r.refusal ≡ o → Kind r (after_byte o r b)
byte_kind None r b good is = newline_kind r b (b == 10) good
byte_kind (Some e) r b good is = let clash : Some e ≡ None = sym is ∙ good in absurd (cc clash)

-- ---- what bytes do

-- the last of these bytes that ends something
record Last (r : ReadSoFar) (bs : List ℕ) : Type 0 where
  count : ℕ
  some : 0 < count
  within : count ≤ length bs
  rest : IsAtRest (fed r (take count bs))
  listed : (fed r (take count bs)).list ≡ (fed r bs).list
  queued : (fed r (take count bs)).queue ≡ (fed r bs).queue
  wholly : (fed r bs).whole ≡ (fed r (take count bs)).size

further : (r : ReadSoFar) (b : ℕ) (bs : List ℕ) → Stays r (after_byte r.refusal r b) ⊎ Ends (after_byte r.refusal r b)
    → Stays (after_byte r.refusal r b) (fed (after_byte r.refusal r b) bs) ⊎ Last (after_byte r.refusal r b) bs → Stays r (fed r (b ∷ bs)) ⊎ Last r (b ∷ bs)
further r b bs k (inr l) =
    let w = l.within in
    inr (record { count = suc l.count; some = omega arith; within = omega arith; rest = l.rest; listed = l.listed; queued = l.queued; wholly = l.wholly })
further r b bs (inl here) (inl s) =
    inl (record { good = s.good; listed = s.listed ∙ here.listed; queued = s.queued ∙ here.queued; wholly = s.wholly ∙ here.wholly; sequenced = s.sequenced ∙ here.sequenced })
further r b bs (inr e) (inl s) =
    inr (record { count = suc zero; some = omega arith; within = omega arith; rest = e.rest; listed = sym s.listed; queued = sym s.queued; wholly = s.wholly ∙ e.wholly })

goes : (r : ReadSoFar) (bs : List ℕ) → (fed r bs).refusal ≡ None → Stays r (fed r bs) ⊎ Last r bs
goes r [] good = inl (record { good = good; listed = refl; queued = refl; wholly = refl; sequenced = refl })
goes r (b ∷ bs) good =
    let s = after_byte r.refusal r b in
    let k = byte_kind r.refusal r b (good_before s bs good) refl in
    further r b bs k.kind (goes s bs good)

size_all : (r : ReadSoFar) (bs : List ℕ) → (fed r bs).refusal ≡ None → (fed r bs).size ≡ counted_all r.size bs
size_all r [] good = refl
size_all r (b ∷ bs) good =
    let s = after_byte r.refusal r b in
    let k = byte_kind r.refusal r b (good_before s bs good) refl in
    size_all s bs good ∙ ap (λ (n : ℕ). counted_all n bs) k.sized

pub size_is : (bs : List ℕ) → length bs < 2 ^ 64 → (fed start bs).refusal ≡ None → (fed start bs).size ≡ length bs
size_is bs small good =
    size_all start bs good ∙ sym (counted_is 0 bs (omega arith)) ∙ (let same : min (0 + length bs) (2 ^ 64 - 1) ≡ length bs = omega arith in same)

-- ---- prefixes

pub take_length : (n : ℕ) (xs : List ℕ) → n ≤ length xs → length (take n xs) ≡ n
take_length zero xs le = refl
take_length (suc n) [] le = absurd (omega arith)
take_length (suc n) (x ∷ xs) le = let r = take_length n xs (omega arith) in omega arith

pub take_and_drop : (n : ℕ) (xs : List ℕ) → xs ≡ take n xs ++ drop n xs
take_and_drop zero xs = refl
take_and_drop (suc n) [] = refl
take_and_drop (suc n) (x ∷ xs) = ap (λ (z : List ℕ). x ∷ z) (take_and_drop n xs)

-- ---- a log that is cut

pub record IsCut (bytes : List ℕ) : Type 0 where
  pub within : (fed start bytes).whole ≤ length bytes
  pub settled : IsSettled (fed start bytes).list (fed start bytes).queue (take (fed start bytes).whole bytes)

settled_at : (bytes : List ℕ) (n : ℕ) → n ≤ length bytes → (fed start bytes).whole ≡ n → IsSettled (fed start bytes).list (fed start bytes).queue (take n bytes) → IsCut bytes
settled_at bytes n le is s = record {
  within = omega (arith, is);
  settled = subst (λ k. IsSettled (fed start bytes).list (fed start bytes).queue (take k bytes)) (sym is) s;
}

cut_by : (bytes : List ℕ) → length bytes < 2 ^ 64 → (fed start bytes).refusal ≡ None → Stays start (fed start bytes) ⊎ Last start bytes → IsCut bytes
cut_by bytes small good (inl s) =
    settled_at bytes zero (omega arith) s.wholly (record { at_rest = record { good = refl; no_part = refl; none_open = refl }; listed = sym s.listed; queued = sym s.queued })
cut_by bytes small good (inr l) =
    let w = l.within in
    let long = take_length l.count bytes l.within in
    let size = size_is (take l.count bytes) (omega arith) l.rest.good in
    settled_at bytes l.count l.within (l.wholly ∙ size ∙ long) (record { at_rest = l.rest; listed = l.listed; queued = l.queued })

-- what is cut behind the last whole transaction counts for nothing
pub cut_settles : (bytes : List ℕ) → length bytes < 2 ^ 64 → (fed start bytes).refusal ≡ None → IsCut bytes
cut_settles bytes small good = cut_by bytes small good (goes start bytes good)

-- ---- a prefix that has all that counts

prefix_by : (bytes image rest : List ℕ) → length bytes < 2 ^ 64 → (fed start bytes).refusal ≡ None → bytes ≡ image ++ rest → (fed start bytes).whole ≤ length image
    → Stays (fed start image) (fed (fed start image) rest) ⊎ Last (fed start image) rest → Stands (fed start bytes).list image
prefix_by bytes image rest small good parts long (inl s) =
    let whole : fed start bytes ≡ fed (fed start image) rest = ap (fed start) parts ∙ fed_append start image rest in
    let good' : (fed (fed start image) rest).refusal ≡ None = ap (λ (r : ReadSoFar). r.refusal) (sym whole) ∙ good in
    record { good = good_before (fed start image) rest good'; listed = sym s.listed ∙ ap (λ (r : ReadSoFar). r.list) (sym whole) }
prefix_by bytes image rest small good parts long (inr l) =
    let whole : fed start bytes ≡ fed (fed start image) rest = ap (fed start) parts ∙ fed_append start image rest in
    let more = take l.count rest in
    let joined : fed (fed start image) more ≡ fed start (image ++ more) = sym (fed_append start image more) in
    let w = l.within in
    let total : length bytes ≡ length image + length rest = ap length parts ∙ length-append image rest in
    let sum = length-append image more in
    let cut = take_length l.count rest l.within in
    let fine : (fed start (image ++ more)).refusal ≡ None = ap (λ (r : ReadSoFar). r.refusal) (sym joined) ∙ l.rest.good in
    let size : (fed start (image ++ more)).size ≡ length (image ++ more) = size_is (image ++ more) (omega arith) fine in
    let ends : (fed start bytes).whole ≡ length (image ++ more) = ap (λ (r : ReadSoFar). r.whole) whole ∙ l.wholly ∙ ap (λ (r : ReadSoFar). r.size) joined ∙ size in
    let some = l.some in
    absurd (omega (arith, ends, sum, cut, some, long))

pub prefix_stands : (bytes image : List ℕ) → length bytes < 2 ^ 64 → (fed start bytes).refusal ≡ None → image ≡ take (length image) bytes → (fed start bytes).whole ≤ length image → Stands (fed start bytes).list image
prefix_stands bytes image small good front long =
    let rest = drop (length image) bytes in
    let parts : bytes ≡ image ++ rest = take_and_drop (length image) bytes ∙ ap (λ (z : List ℕ). z ++ rest) (sym front) in
    let whole : fed start bytes ≡ fed (fed start image) rest = ap (fed start) parts ∙ fed_append start image rest in
    prefix_by bytes image rest small good parts long (goes (fed start image) rest (ap (λ (r : ReadSoFar). r.refusal) (sym whole) ∙ good))

-- ---- no byte takes a transaction away

record Grows (r s : ReadSoFar) : Type 0 where
  more : List (List Operation)
  listed : s.list ≡ r.list ++ more

stays_short : (r s : ReadSoFar) → s.list ≡ r.list → Grows r s
stays_short r s same = record { more = []; listed = same ∙ sym (append-nil r.list) }

takes_grows : (r : ReadSoFar) (ops : List Operation) (first : ℕ) (res : Result KeyedAds ApplyError) → (takes_in r ops first res).refusal ≡ None → Grows r (takes_in r ops first res)
takes_grows r ops first (Err f) good = absurd (cc good)
takes_grows r ops first (Ok q) good = record { more = ops ∷ []; listed = refl }

entry_grows : (r : ReadSoFar) (o : Option (List Operation)) (e : Option Entry) → (after_entry r o e).refusal ≡ None → Grows r (after_entry r o e)
entry_grows r o None good = absurd (cc good)
entry_grows r None (Some begins) good = stays_short r (after_entry r None (Some begins)) refl
entry_grows r (Some ops) (Some begins) good = absurd (cc good)
entry_grows r None (Some ends) good = absurd (cc good)
entry_grows r (Some ops) (Some ends) good = takes_grows r ops (counted r.begun 1) (queue_after r.queue ops) good
entry_grows r None (Some (does p)) good = takes_grows r (p ∷ []) r.line (queue_after r.queue (p ∷ [])) good
entry_grows r (Some ops) (Some (does p)) good = stays_short r (after_entry r (Some ops) (Some (does p))) refl
entry_grows r None (Some (stamped n)) good = stays_short r (after_entry r None (Some (stamped n))) refl
entry_grows r (Some ops) (Some (stamped n)) good = absurd (cc good)

line_grows : (r : ReadSoFar) (t : Bool) → (cond t (refused (TooLong r.line)) (after_entry r r.opened (entry_at r.part))).refusal ≡ None
    → Grows r (cond t (refused (TooLong r.line)) (after_entry r r.opened (entry_at r.part)))
line_grows r true good = absurd (cc good)
line_grows r false good = entry_grows r r.opened (entry_at r.part) good

newline_grows : (r : ReadSoFar) (b : ℕ) (t : Bool) → (cond t (after_line r) (in_line r b)).refusal ≡ None → Grows r (cond t (after_line r) (in_line r b))
newline_grows r b true good = line_grows r (ltb 16384 (length r.part)) good
newline_grows r b false good = stays_short r (in_line r b) refl

byte_grows : (o : Option RecordError) (r : ReadSoFar) (b : ℕ) → (after_byte o r b).refusal ≡ None → Grows r (after_byte o r b)
byte_grows None r b good = newline_grows r b (b == 10) good
byte_grows (Some e) r b good = stays_short r r refl

grows : (r : ReadSoFar) (bs : List ℕ) → (fed r bs).refusal ≡ None → Grows r (fed r bs)
grows r [] good = stays_short r r refl
grows r (b ∷ bs) good =
    let s = after_byte r.refusal r b in
    let here = byte_grows r.refusal r b (good_before s bs good) in
    let rest = grows s bs good in
    record { more = here.more ++ rest.more; listed = rest.listed ∙ ap (λ (l : List (List Operation)). l ++ rest.more) here.listed ∙ append_assoc r.list here.more rest.more }

front_of_one : (txs more : List (List Operation)) (tx : List Operation) → tx ∷ [] ≡ txs ++ more → (txs ≡ []) ⊎ (txs ≡ tx ∷ [])
front_of_one [] more tx h = inl refl
front_of_one (t ∷ []) more tx h = inr (sym (ap (take 1) h))
front_of_one (t ∷ u ∷ txs) more tx h = let e = ap length h in absurd (omega arith)

-- a prefix of bytes that say one transaction says it, or none
pub one_or_none : (bytes image : List ℕ) (tx : List Operation) → (fed start bytes).refusal ≡ None → (fed start bytes).list ≡ tx ∷ [] → image ≡ take (length image) bytes → Stands [] image ⊎ Stands (tx ∷ []) image
one_or_none bytes image tx good one front =
    let rest = drop (length image) bytes in
    let parts : bytes ≡ image ++ rest = take_and_drop (length image) bytes ∙ ap (λ (z : List ℕ). z ++ rest) (sym front) in
    let whole : fed start bytes ≡ fed (fed start image) rest = ap (fed start) parts ∙ fed_append start image rest in
    let good' : (fed (fed start image) rest).refusal ≡ None = ap (λ (r : ReadSoFar). r.refusal) (sym whole) ∙ good in
    let fine = good_before (fed start image) rest good' in
    let g = grows (fed start image) rest good' in
    by fine (front_of_one (fed start image).list g.more tx (sym one ∙ ap (λ (r : ReadSoFar). r.list) whole ∙ g.listed))
  where
    by : (fed start image).refusal ≡ None → ((fed start image).list ≡ []) ⊎ ((fed start image).list ≡ tx ∷ []) → Stands [] image ⊎ Stands (tx ∷ []) image
    by fine (inl none) = inl (record { good = fine; listed = none })
    by fine (inr all) = inr (record { good = fine; listed = all })
