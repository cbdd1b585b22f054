-- What was read of a log, line by line.
use Rattle.std.proofs.Common.{◌≡◌, ◌⊎◌, inl, inr, ℕ, zero, suc, ◌+◌, ◌-◌, ◌<◌, ◌≤◌, ◌^◌, ◌==◌, ◌&&◌, min, not, Bool, true, false, cond, ltb, List, [], ◌∷◌, ◌++◌, length, Option, Some, None, Result, Ok, Err, IfSome, refl, ap, sym, ◌∙◌, subst, arith, append_assoc, length-append}
use Rattle.std.specs.List.{list_all}
use Rattle.std.proofs.lemmas.Bool.{eqb-true, ltb-true, ltb-false, lt-ltb}
use Rattle.std.proofs.lemmas.Bool.Decides.{nat_tests}
use Rattle.std.proofs.lemmas.List.{append-nil}
use Rattle.queue_tx.specs.declared.error.ApplyError.{ApplyError}
use Rattle.queue_tx.specs.Operations.{Operation}
use Rattle.queue_tx.specs.Queues.{KeyedAds, queue_after, queue_after_all, after_rest, QueueOf}
use Rattle.queue_record.specs.declared.error.RecordError.{RecordError}
use Rattle.queue_record.specs.declared.error.RecordError.TheVariants.{BadRecord, TooLong}
use Rattle.queue_record.specs.Entries.{Entry, begins, ends, does, stamped, entry_at}
use Rattle.queue_record.specs.ReadSoFar.{ReadSoFar, start, refused, refusal_of, counted, goes_on, takes_in, after_entry, after_line, kept_all, kept_part, counted_all, with_bytes, fed, HasNoNewline}
use Rattle.queue_record.specs.Logs.{lines_text, IsEntryLine, AreOperations, AreWhole, nothing, stamp, single, several, AreOpen, StandsFor, IsCause, long, no_record, misplaced, alone, together, IsBadLog}
use Rattle.queue_record.proofs.Feeding.{fed_bytes, fed_line, fed_refused, kept_full, counted_is}
use Rattle.queue_record.proofs.RecordLemmas.{read_is_record, record_is_read}

-- ---- lists of lines

pub text_append : (xs ys : List (List ℕ)) → lines_text (xs ++ ys) ≡ lines_text xs ++ lines_text ys
text_append [] ys = refl
text_append (x ∷ xs) ys = ap (λ (t : List ℕ). x ++ 10 ∷ t) (text_append xs ys) ∙ sym (append_assoc x (10 ∷ lines_text xs) (lines_text ys))

operations_push : (lines : List (List ℕ)) (os : List Operation) (line : List ℕ) (o : Operation) → AreOperations lines os → IsEntryLine line (does o) → AreOperations (lines ++ line ∷ []) (os ++ o ∷ [])
operations_push [] [] line o are is = (is, tt)
operations_push [] (p ∷ os) line o are is = absurd are
operations_push (l ∷ lines) [] line o are is = absurd are
operations_push (l ∷ lines) (p ∷ os) line o are is = (are.0, operations_push lines os line o are.1 is)

-- ---- queues

all_done : (r : Result KeyedAds ApplyError) → after_rest (λ q. Ok q) r ≡ r
all_done (Ok q) = refl
all_done (Err e) = refl

after_push : (q : KeyedAds) (txs : List (List Operation)) (tx : List Operation) → queue_after_all q (txs ++ tx ∷ []) ≡ after_rest (λ p. queue_after p tx) (queue_after_all q txs)
after_push q [] tx = all_done (queue_after q tx)
after_push q (t ∷ txs) tx = by (queue_after q t) (λ p. after_push p txs tx)
  where
    by : (r : Result KeyedAds ApplyError) → ((p : KeyedAds) → queue_after_all p (txs ++ tx ∷ []) ≡ after_rest (λ s. queue_after s tx) (queue_after_all p txs))
        → after_rest (λ p. queue_after_all p (txs ++ tx ∷ [])) r ≡ after_rest (λ s. queue_after s tx) (after_rest (λ p. queue_after_all p txs) r)
    by (Ok p) h = h p
    by (Err e) h = refl

pub applies_push : (txs : List (List Operation)) (tx : List Operation) (q p : KeyedAds) → QueueOf txs q → queue_after q tx ≡ Ok p → QueueOf (txs ++ tx ∷ []) p
applies_push txs tx q p done next = after_push [] txs tx ∙ ap (after_rest (λ s. queue_after s tx)) done ∙ next

-- ---- what is kept of a line

pub kept_fits : (part bs : List ℕ) → length part + length bs ≤ 16384 → kept_all part bs ≡ part ++ bs
kept_fits part [] le = sym (append-nil part)
kept_fits part (b ∷ bs) le =
    let room : ltb 16384 (length part) ≡ false = grind (arith, nat_tests) in
    ap (λ (t : Bool). kept_all (cond t part (part ++ b ∷ [])) bs) room
    ∙ kept_fits (part ++ b ∷ []) bs (omega (arith, length-append part (b ∷ [])))
    ∙ append_assoc part (b ∷ []) bs

kept_long : (part bs : List ℕ) → 16384 < length part + length bs → 16384 < length (kept_all part bs)
kept_long part [] far = omega arith
kept_long part (b ∷ bs) far =
    by (ltb 16384 (length part)) refl (λ more. kept_long (part ++ b ∷ []) bs more)
  where
    by : (t : Bool) → ltb 16384 (length part) ≡ t → (16384 < length (part ++ b ∷ []) + length bs → 16384 < length (kept_all (part ++ b ∷ []) bs))
        → 16384 < length (kept_all (kept_part part b) bs)
    by true e h =
        let full = ltb-true 16384 (length part) e in
        let same : kept_all (kept_part part b) bs ≡ part = ap (λ (t : Bool). kept_all (cond t part (part ++ b ∷ [])) bs) e ∙ kept_full part bs full in
        subst (λ p. 16384 < length p) (sym same) full
    by false e h =
        let same : kept_all (kept_part part b) bs ≡ kept_all (part ++ b ∷ []) bs = ap (λ (t : Bool). kept_all (cond t part (part ++ b ∷ [])) bs) e in
        subst (λ p. 16384 < length p) (sym same) (h (omega (arith, length-append part (b ∷ []))))

abbrev TOP : ℕ
TOP = 18446744073709551615

count_more : (n : ℕ) (bs : List ℕ) → counted_all (min n TOP) bs ≡ min (n + length bs) TOP
count_more n bs = sym (counted_is (min n TOP) bs (omega arith)) ∙ (let same : min (min n TOP + length bs) (2 ^ 64 - 1) ≡ min (n + length bs) TOP = omega arith in same)

-- ---- what was read so far

record IsSoFar (ws us : List (List ℕ)) (r : ReadSoFar) : Type 0 where
  are_whole : AreWhole ws r.list r.sequence
  are_open : AreOpen us r.opened
  applies : QueueOf r.list r.queue
  good : r.refusal ≡ None
  none : r.part ≡ []
  numbered : r.line ≡ min (length ws + length us + 1) TOP
  begins_at : IfSome r.opened (λ os. r.begun ≡ min (length ws + 1) TOP)
  sized : r.size ≡ min (length (lines_text ws ++ lines_text us)) TOP
  wholly : r.whole ≡ min (length (lines_text ws)) TOP

record GoesOn (ws us : List (List ℕ)) (line : List ℕ) (s : ReadSoFar) : Type 0 where
  ws' : List (List ℕ)
  us' : List (List ℕ)
  text : lines_text ws' ++ lines_text us' ≡ (lines_text ws ++ lines_text us) ++ (line ++ 10 ∷ [])
  so_far : IsSoFar ws' us' s

record Stops (ws us : List (List ℕ)) (line : List ℕ) (opened : Option (List Operation)) (queue : KeyedAds) (s : ReadSoFar) : Type 0 where
  error : RecordError
  is : s ≡ refused error
  cause : IsCause line (counted 1 (length ws + length us)) (counted 1 (length ws + 1)) opened queue error

abbrev Outcome : List (List ℕ) → List (List ℕ) → List ℕ → Option (List Operation) → KeyedAds → ReadSoFar → Type 0
Outcome ws us line opened queue s = GoesOn ws us line s ⊎ Stops ws us line opened queue s

-- a line more behind those of an open transaction
text_more : (ws us : List (List ℕ)) (line : List ℕ) → lines_text ws ++ lines_text (us ++ line ∷ []) ≡ (lines_text ws ++ lines_text us) ++ (line ++ 10 ∷ [])
text_more ws us line = ap (λ (t : List ℕ). lines_text ws ++ t) (text_append us (line ∷ [])) ∙ sym (append_assoc (lines_text ws) (lines_text us) (line ++ 10 ∷ []))

-- and a line that ends it
text_end : (ws us : List (List ℕ)) (line : List ℕ) → lines_text (ws ++ (us ++ line ∷ [])) ++ [] ≡ (lines_text ws ++ lines_text us) ++ (line ++ 10 ∷ [])
text_end ws us line = append-nil (lines_text (ws ++ (us ++ line ∷ []))) ∙ text_append ws (us ++ line ∷ []) ∙ text_more ws us line

length_more : (ws us : List (List ℕ)) (line : List ℕ) → length ((lines_text ws ++ lines_text us) ++ (line ++ 10 ∷ [])) ≡ length (lines_text ws ++ lines_text us) + length line + 1
length_more ws us line = omega (arith, length-append (lines_text ws ++ lines_text us) (line ++ 10 ∷ []), length-append line (10 ∷ []))

module _ (ws us : List (List ℕ)) (r : ReadSoFar) (line : List ℕ) (so : IsSoFar ws us r) (one : HasNoNewline line) where
  -- the reading at the end of the line
  abbrev full : ReadSoFar
  full = with_bytes r line

  full_size : full.size ≡ min (length (lines_text ws ++ lines_text us) + length line) TOP
  full_size = ap (λ (n : ℕ). counted_all n line) so.sized ∙ count_more (length (lines_text ws ++ lines_text us)) line

  next_size : counted full.size 1 ≡ min (length (lines_text ws ++ lines_text us) + length line + 1) TOP
  next_size = let s = full_size in omega (arith, s)

  next_line : counted r.line 1 ≡ min (length ws + length us + 1 + 1) TOP
  next_line = let s = so.numbered in omega (arith, s)

  number_is : counted 1 (length ws + length us) ≡ r.line
  number_is = let s = so.numbered in omega (arith, s)

  stops_here : (e : RecordError) (opened : Option (List Operation)) → IsCause line r.line (counted 1 (length ws + 1)) opened r.queue e → Outcome ws us line opened r.queue (refused e)
  stops_here e opened cause = inr (record { error = e; is = refl; cause = subst (λ n. IsCause line n (counted 1 (length ws + 1)) opened r.queue e) (sym number_is) cause })

  -- a line more, where a transaction is open
  more_open : (first : List ℕ) (inner : List (List ℕ)) (os : List Operation) (o : Operation) → us ≡ first ∷ inner → r.opened ≡ Some os → r.begun ≡ min (length ws + 1) TOP → IsEntryLine first begins → AreOperations inner os
      → IsEntryLine line (does o) → GoesOn ws us line (goes_on full (Some (os ++ o ∷ [])) r.begun)
  more_open first inner os o same opened begun begin are is =
      let more : us ++ line ∷ [] ≡ first ∷ (inner ++ line ∷ []) = ap (λ (t : List (List ℕ)). t ++ line ∷ []) same in
      let count = length-append us (line ∷ []) in
      let size = length_more ws us line in
      let next = next_size in
      let number = next_line in
      record {
        ws' = ws;
        us' = us ++ line ∷ [];
        text = text_more ws us line;
        so_far = record {
          are_whole = so.are_whole;
          are_open = subst (λ t. AreOpen t (Some (os ++ o ∷ []))) (sym more) (begin, operations_push inner os line o are is);
          applies = so.applies;
          good = refl;
          none = refl;
          numbered = omega (arith, number, count);
          begins_at = begun;
          sized = next ∙ (let far : min (length (lines_text ws ++ lines_text us) + length line + 1) TOP ≡ min (length ((lines_text ws ++ lines_text us) ++ (line ++ 10 ∷ []))) TOP = omega (arith, size) in far) ∙ ap (λ (t : List ℕ). min (length t) TOP) (sym (text_more ws us line));
          wholly = so.wholly;
        };
      }

  -- a transaction begins
  opens : us ≡ [] → IsEntryLine line begins → GoesOn ws us line (goes_on full (Some []) r.line)
  opens same is =
      let more : us ++ line ∷ [] ≡ line ∷ [] = ap (λ (t : List (List ℕ)). t ++ line ∷ []) same in
      let count = length-append us (line ∷ []) in
      let none = ap length same in
      let size = length_more ws us line in
      let next = next_size in
      let number = next_line in
      let here = so.numbered in
      record {
        ws' = ws;
        us' = us ++ line ∷ [];
        text = text_more ws us line;
        so_far = record {
          are_whole = so.are_whole;
          are_open = subst (λ t. AreOpen t (Some [])) (sym more) (is, tt);
          applies = so.applies;
          good = refl;
          none = refl;
          numbered = omega (arith, number, count);
          begins_at = omega (arith, here, none);
          sized = next ∙ (let far : min (length (lines_text ws ++ lines_text us) + length line + 1) TOP ≡ min (length ((lines_text ws ++ lines_text us) ++ (line ++ 10 ∷ []))) TOP = omega (arith, size) in far) ∙ ap (λ (t : List ℕ). min (length t) TOP) (sym (text_more ws us line));
          wholly = so.wholly;
        };
      }

  -- lines that are whole with this one
  ends_whole : (txs : List (List Operation)) (q : KeyedAds) (n : ℕ) (s : ReadSoFar) → AreWhole (ws ++ (us ++ line ∷ [])) txs n → QueueOf txs q
      → s.list ≡ txs → s.queue ≡ q → s.sequence ≡ n → s.opened ≡ None → s.refusal ≡ None → s.part ≡ [] → s.line ≡ counted r.line 1 → s.size ≡ counted full.size 1 → s.whole ≡ counted full.size 1
      → GoesOn ws us line s
  ends_whole txs q n s whole applies list queue sequence opened good none lined sized wholly =
      let all = ws ++ (us ++ line ∷ []) in
      let count = length-append ws (us ++ line ∷ []) in
      let count' = length-append us (line ∷ []) in
      let size = length_more ws us line in
      let next = next_size in
      let number = next_line in
      let far : min (length (lines_text ws ++ lines_text us) + length line + 1) TOP ≡ min (length ((lines_text ws ++ lines_text us) ++ (line ++ 10 ∷ []))) TOP = omega (arith, size) in
      let there : counted full.size 1 ≡ min (length (lines_text all ++ [])) TOP = next ∙ far ∙ ap (λ (t : List ℕ). min (length t) TOP) (sym (text_end ws us line)) in
      record {
        ws' = all;
        us' = [];
        text = text_end ws us line;
        so_far = record {
          are_whole = subst (λ l. AreWhole all l s.sequence) (sym list) (subst (λ k. AreWhole all txs k) (sym sequence) whole);
          are_open = subst (λ o. AreOpen [] o) (sym opened) tt;
          applies = subst (λ l. QueueOf l s.queue) (sym list) (subst (λ k. QueueOf txs k) (sym queue) applies);
          good = good;
          none = none;
          numbered = omega (arith, lined, number, count, count');
          begins_at = subst (λ o. IfSome o (λ os. s.begun ≡ min (length all + 1) TOP)) (sym opened) tt;
          sized = sized ∙ there;
          wholly = wholly ∙ there ∙ ap (λ (t : List ℕ). min (length t) TOP) (append-nil (lines_text all));
        };
      }

  takes : (os : List Operation) (first : ℕ) (res : Result KeyedAds ApplyError) (opened : Option (List Operation)) → queue_after r.queue os ≡ res
      → AreWhole (ws ++ (us ++ line ∷ [])) (r.list ++ os ∷ []) r.sequence → ((f : ApplyError) → queue_after r.queue os ≡ Err f → IsCause line r.line (counted 1 (length ws + 1)) opened r.queue (refusal_of first f))
      → Outcome ws us line opened r.queue (takes_in full os first res)
  takes os first (Ok q) opened done whole cause = inl (ends_whole (r.list ++ os ∷ []) q r.sequence _ whole (applies_push r.list os r.queue q so.applies done) refl refl refl refl refl refl refl refl refl)
  takes os first (Err f) opened done whole cause = stops_here (refusal_of first f) opened (cause f done)

  -- what a line that says this leads to
  entry_leads : (o : Option (List Operation)) (us' : List (List ℕ)) → us ≡ us' → r.opened ≡ o → AreOpen us' o → IfSome o (λ os. r.begun ≡ min (length ws + 1) TOP) → (e : Option Entry) → entry_at line ≡ e → length line ≤ 16384
      → Outcome ws us line o r.queue (after_entry full o e)
  entry_leads o us' same opened are begun None h short = stops_here (BadRecord r.line) o (no_record short (λ e rec. (let clash : None ≡ Some e = sym h ∙ record_is_read line e rec in absurd (cc clash))))
  entry_leads None [] same opened are begun (Some begins) h short = inl (opens same (record { one = one; short = short; says = read_is_record line begins h }))
  entry_leads None [] same opened are begun (Some ends) h short = stops_here (BadRecord r.line) None (misplaced ends (record { one = one; short = short; says = read_is_record line ends h }) tt)
  entry_leads None [] same opened are begun (Some (does p)) h short =
      let is : IsEntryLine line (does p) = record { one = one; short = short; says = read_is_record line (does p) h } in
      let whole : AreWhole (ws ++ (us ++ line ∷ [])) (r.list ++ (p ∷ []) ∷ []) r.sequence = subst (λ t. AreWhole (ws ++ (t ++ line ∷ [])) (r.list ++ (p ∷ []) ∷ []) r.sequence) (sym same) (single ws line r.list r.sequence p so.are_whole is) in
      takes (p ∷ []) r.line (queue_after r.queue (p ∷ [])) None refl whole (λ f bad. alone p f refl is bad)
  entry_leads None [] same opened are begun (Some (stamped m)) h short =
      let is : IsEntryLine line (stamped m) = record { one = one; short = short; says = read_is_record line (stamped m) h } in
      let whole : AreWhole (ws ++ (us ++ line ∷ [])) r.list m = subst (λ t. AreWhole (ws ++ (t ++ line ∷ [])) r.list m) (sym same) (stamp ws line r.list r.sequence m so.are_whole is) in
      inl (ends_whole r.list r.queue m _ whole so.applies refl refl refl refl refl refl refl refl refl)
  entry_leads None (first ∷ inner) same opened are begun (Some e) h short = absurd are
  entry_leads (Some os) [] same opened are begun (Some e) h short = absurd are
  entry_leads (Some os) (first ∷ inner) same opened are begun (Some begins) h short = stops_here (BadRecord r.line) (Some os) (misplaced begins (record { one = one; short = short; says = read_is_record line begins h }) tt)
  entry_leads (Some os) (first ∷ inner) same opened are begun (Some ends) h short =
      let is : IsEntryLine line ends = record { one = one; short = short; says = read_is_record line ends h } in
      let whole : AreWhole (ws ++ (us ++ line ∷ [])) (r.list ++ os ∷ []) r.sequence =
      subst (λ t. AreWhole (ws ++ (t ++ line ∷ [])) (r.list ++ os ∷ []) r.sequence) (sym same) (several ws inner first line r.list r.sequence os so.are_whole are.0 are.1 is) in
      let number : counted r.begun 1 ≡ counted 1 (length ws + 1) = omega (arith, begun) in
      takes os (counted r.begun 1) (queue_after r.queue os) (Some os) refl whole (λ f bad. subst (λ k. IsCause line r.line (counted 1 (length ws + 1)) (Some os) r.queue (refusal_of k f)) (sym number) (together os f refl is bad))
  entry_leads (Some os) (first ∷ inner) same opened are begun (Some (does p)) h short =
      inl (more_open first inner os p same opened begun are.0 are.1 (record { one = one; short = short; says = read_is_record line (does p) h }))
  entry_leads (Some os) (first ∷ inner) same opened are begun (Some (stamped m)) h short = stops_here (BadRecord r.line) (Some os) (misplaced (stamped m) (record { one = one; short = short; says = read_is_record line (stamped m) h }) tt)

  line_leads : (b : Bool) → ltb 16384 (length line) ≡ b → Outcome ws us line r.opened r.queue (after_line full)
  line_leads true far =
      let big = ltb-true 16384 (length line) far in
      let kept : 16384 < length (kept_all [] line) = kept_long [] line (omega arith) in
      let part : 16384 < length full.part = subst (λ p. 16384 < length (kept_all p line)) (sym so.none) kept in
      subst (λ s. Outcome ws us line r.opened r.queue s) (sym (ap (λ (t : Bool). cond t (refused (TooLong r.line)) (after_entry full r.opened (entry_at full.part))) (lt-ltb 16384 (length full.part) part)))
      (stops_here (TooLong r.line) r.opened (long big))
  line_leads false near =
      let short = ltb-false 16384 (length line) near in
      let part : full.part ≡ line = ap (λ (p : List ℕ). kept_all p line) so.none ∙ kept_fits [] line (omega arith) in
      let fits : ltb 16384 (length full.part) ≡ false = ap (λ (p : List ℕ). ltb 16384 (length p)) part ∙ near in
      subst (λ s. Outcome ws us line r.opened r.queue s) (sym (ap (λ (t : Bool). cond t (refused (TooLong r.line)) (after_entry full r.opened (entry_at full.part))) fits ∙ ap (λ (p : List ℕ). after_entry full r.opened (entry_at p)) part))
      (entry_leads r.opened us refl refl so.are_open so.begins_at (entry_at line) refl short)

-- ---- bytes

record Cut (bytes : List ℕ) : Type 0 where
  line : List ℕ
  after : List ℕ
  parts : bytes ≡ line ++ 10 ∷ after
  one : HasNoNewline line

cut : (bytes : List ℕ) → Cut bytes ⊎ HasNoNewline bytes
cut [] = inr refl
cut (b ∷ bs) = by (b == 10) refl (cut bs)
  where
    by : (t : Bool) → (b == 10) ≡ t → Cut bs ⊎ HasNoNewline bs → Cut (b ∷ bs) ⊎ HasNoNewline (b ∷ bs)
    by true e rest = inl (record { line = []; after = bs; parts = ap (λ (x : ℕ). x ∷ bs) (eqb-true b 10 e); one = refl })
    by false e (inl c) = inl (record { line = b ∷ c.line; after = c.after; parts = ap (λ (t : List ℕ). b ∷ t) c.parts; one = ap (λ (t : Bool). not t && list_all (λ b. not (b == 10)) c.line) e ∙ c.one })
    by false e (inr none) = inr (ap (λ (t : Bool). not t && list_all (λ b. not (b == 10)) bs) e ∙ none)

-- what reading comes to
record ComesTo (bytes : List ℕ) (s : ReadSoFar) : Type 0 where
  stands : s.refusal ≡ None → StandsFor bytes s.list s.queue s.whole s.sequence
  bad : (e : RecordError) → s.refusal ≡ Some e → IsBadLog bytes e

-- nothing but a rest is left
finish : (bytes : List ℕ) (ws us : List (List ℕ)) (r : ReadSoFar) → IsSoFar ws us r → HasNoNewline bytes → ComesTo ((lines_text ws ++ lines_text us) ++ bytes) (fed r bytes)
finish bytes ws us r so none =
    let w = so.wholly in
    subst (λ s. ComesTo ((lines_text ws ++ lines_text us) ++ bytes) s) (sym (fed_bytes r bytes so.good none)) (record {
      stands = λ good. record { lines = ws; unended = us; opened = r.opened; rest = bytes; parts = refl; torn = none; are_whole = so.are_whole; are_open = so.are_open; applies = so.applies; sized = omega (arith, w) };
      bad = λ e h. absurd (cc h);
    })

abbrev error_or : RecordError → Option RecordError → RecordError
error_or d None = d
error_or d (Some e) = e

-- a line, and what comes of the bytes after it
step : (bytes line after : List ℕ) (ws us : List (List ℕ)) (r : ReadSoFar) → IsSoFar ws us r → HasNoNewline line → bytes ≡ line ++ 10 ∷ after
    → ((vs ts : List (List ℕ)) (s : ReadSoFar) → IsSoFar vs ts s → ComesTo ((lines_text vs ++ lines_text ts) ++ after) (fed s after))
    → Outcome ws us line r.opened r.queue (after_line (with_bytes r line))
    → ComesTo ((lines_text ws ++ lines_text us) ++ bytes) (fed r bytes)
step bytes line after ws us r so one parts rest (inl g) =
    let before = lines_text ws ++ lines_text us in
    let come = rest g.ws' g.us' (after_line (with_bytes r line)) g.so_far in
    let text : (lines_text g.ws' ++ lines_text g.us') ++ after ≡ before ++ bytes =
    ap (λ (t : List ℕ). t ++ after) g.text ∙ append_assoc before (line ++ 10 ∷ []) after ∙ ap (λ (t : List ℕ). before ++ t) (append_assoc line (10 ∷ []) after ∙ sym parts) in
    subst (λ s. ComesTo (before ++ bytes) s) (sym (ap (fed r) parts ∙ fed_line r line after so.good one)) (subst (λ t. ComesTo t (fed (after_line (with_bytes r line)) after)) text come)
step bytes line after ws us r so one parts rest (inr stop) =
    let before = lines_text ws ++ lines_text us in
    let end : fed r bytes ≡ refused stop.error = ap (fed r) parts ∙ fed_line r line after so.good one ∙ ap (λ (s : ReadSoFar). fed s after) stop.is ∙ fed_refused stop.error after in
    subst (λ s. ComesTo (before ++ bytes) s) (sym end) (record {
      stands = λ good. absurd (cc good);
      bad = λ e h. subst (λ x. IsBadLog (before ++ bytes) x) (ap (error_or stop.error) h) (record {
        lines = ws;
        unended = us;
        opened = r.opened;
        txs = r.list;
        sequence = r.sequence;
        queue = r.queue;
        line = line;
        after = after;
        parts = ap (λ (t : List ℕ). before ++ t) parts;
        are_whole = so.are_whole;
        are_open = so.are_open;
        applies = so.applies;
        one = one;
        cause = stop.cause;
      });
    })

choose : (bytes : List ℕ) (ws us : List (List ℕ)) (r : ReadSoFar) → IsSoFar ws us r
    → ((c : Cut bytes) → ComesTo ((lines_text ws ++ lines_text us) ++ bytes) (fed r bytes))
    → Cut bytes ⊎ HasNoNewline bytes → ComesTo ((lines_text ws ++ lines_text us) ++ bytes) (fed r bytes)
choose bytes ws us r so f (inl c) = f c
choose bytes ws us r so f (inr none) = finish bytes ws us r so none

shorter : (bytes : List ℕ) (c : Cut bytes) → length c.after < length bytes
shorter bytes c = let e = ap length c.parts in omega (arith, e, length-append c.line (10 ∷ c.after))

main : (n : ℕ) (bytes : List ℕ) (ws us : List (List ℕ)) (r : ReadSoFar) → length bytes ≤ n → IsSoFar ws us r → ComesTo ((lines_text ws ++ lines_text us) ++ bytes) (fed r bytes)
main zero [] ws us r le so = finish [] ws us r so refl
main zero (b ∷ bs) ws us r le so = absurd (omega arith)
main (suc n) bytes ws us r le so =
    choose bytes ws us r so
    (λ c. step bytes c.line c.after ws us r so c.one c.parts
    (λ vs ts s so'. main n c.after vs ts s (let less = shorter bytes c in omega arith) so')
    (line_leads ws us r c.line so c.one (ltb 16384 (length c.line)) refl))
    (cut bytes)

at_start : IsSoFar [] [] start
at_start = record { are_whole = nothing; are_open = tt; applies = refl; good = refl; none = refl; numbered = omega arith; begins_at = tt; sized = omega arith; wholly = omega arith }

comes : (bytes : List ℕ) → ComesTo bytes (fed start bytes)
comes bytes = main (length bytes) bytes [] [] start (omega arith) at_start

pub reading_stands : (bytes : List ℕ) → (fed start bytes).refusal ≡ None → StandsFor bytes (fed start bytes).list (fed start bytes).queue (fed start bytes).whole (fed start bytes).sequence
reading_stands bytes good = (comes bytes).stands good

pub reading_bad : (bytes : List ℕ) (e : RecordError) → (fed start bytes).refusal ≡ Some e → IsBadLog bytes e
reading_bad bytes e h = (comes bytes).bad e h
