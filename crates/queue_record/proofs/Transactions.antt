-- The text of a transaction is read as that transaction.
use Rattle.std.proofs.Common.{◌≡◌, ◌⊎◌, inl, inr, leb, take, ℕ, suc, ◌+◌, ◌-◌, ◌<◌, ◌≤◌, codes, Bool, true, false, cond, ltb, List, [], ◌∷◌, ◌++◌, length, Option, Some, None, Ok, refl, ap, sym, ◌∙◌, subst, arith, append_assoc, length-append}
use Rattle.std.specs.Option.{option_map}
use Rattle.std.specs.Str.{IsUtf8}
use Rattle.std.proofs.lemmas.Bool.{leb-true, leb-false}
use Rattle.std.proofs.lemmas.Bool.Decides.{nat_tests}
use Rattle.std.proofs.lemmas.List.{append-nil}
use Rattle.std.proofs.lemmas.Str.{IsUtf8-from_ascii}
use Rattle.std.proofs.lemmas.Str.Ascii.{IsAscii-nil, IsAscii-cons}
use Rattle.queue_tx.specs.Operations.{Operation}
use Rattle.queue_tx.specs.Printable.{IsPrintable}
use Rattle.queue_tx.specs.Queues.{KeyedAds, queue_after}
use Rattle.queue_record.specs.Entries.{Entry, begins, ends, does, entry_at}
use Rattle.queue_record.specs.ReadSoFar.{ReadSoFar, refused, counted, goes_on, takes_in, after_entry, with_bytes, kept_all, fed, HasNoNewline}
use Rattle.queue_record.specs.declared.error.RecordError.TheVariants.{TooLong}
use Rattle.queue_record.specs.Records.{IsShort, Record}
use Rattle.queue_record.specs.Texts.{op_line, ops_text, tx_text, is_long, first_long, AreTexts}
use Rattle.queue_record.specs.Logs.{Settles, Stays}
use Rattle.queue_record.proofs.Feeding.{fed_line, fed_bytes}
use Rattle.queue_record.proofs.LogLemmas.{kept_fits}
use Rattle.queue_record.proofs.Newlines.{take_line}
use Rattle.queue_record.proofs.Printed.{printed_line, printed_short, printed_entry}
use Rattle.queue_record.proofs.RecordLemmas.{record_is_read}

-- a line that says this, and its newline
line_read : (r : ReadSoFar) (line more : List ℕ) (e : Entry) → r.refusal ≡ None → r.part ≡ [] → HasNoNewline line → IsShort line → entry_at line ≡ Some e
    → fed r (line ++ 10 ∷ more) ≡ fed (after_entry (with_bytes r line) r.opened (Some e)) more
line_read r line more e good none one short says =
    let full = with_bytes r line in
    let part : full.part ≡ line = ap (λ (p : List ℕ). kept_all p line) none ∙ kept_fits [] line (omega arith) in
    let near : ltb 16384 (length line) ≡ false = grind (arith, nat_tests) in
    let fits : ltb 16384 (length full.part) ≡ false = ap (λ (p : List ℕ). ltb 16384 (length p)) part ∙ near in
    fed_line r line more good one
    ∙ ap (λ (s : ReadSoFar). fed s more)
    (ap (λ (t : Bool). cond t (refused (TooLong r.line)) (after_entry full r.opened (entry_at full.part))) fits
    ∙ ap (λ (p : List ℕ). after_entry full r.opened (entry_at p)) part
    ∙ ap (after_entry full r.opened) says)

three_bytes : (a b c : ℕ) → a < 128 → b < 128 → c < 128 → IsUtf8 (a ∷ b ∷ c ∷ [])
three_bytes a b c x y z = IsUtf8-from_ascii (a ∷ b ∷ c ∷ []) (IsAscii-cons a (b ∷ c ∷ []) x (IsAscii-cons b (c ∷ []) y (IsAscii-cons c [] z IsAscii-nil)))

begins_record : Record (codes "105") begins
begins_record = record { is_text = three_bytes 49 48 53 (omega arith) (omega arith) (omega arith); after = []; code = record { parts = refl; solid = refl; ended = refl }; says = refl }

ends_record : Record (codes "106") ends
ends_record = record { is_text = three_bytes 49 48 54 (omega arith) (omega arith) (omega arith); after = []; code = record { parts = refl; solid = refl; ended = refl }; says = tt }

none_long : (o : Operation) (os : List Operation) → first_long (o ∷ os) ≡ None → (is_long o ≡ false) × (first_long os ≡ None)
none_long o os h = by (is_long o) refl (first_long os) refl h
  where
    by : (b : Bool) → is_long o ≡ b → (m : Option ℕ) → first_long os ≡ m → cond b (Some 0) (option_map (λ n. n + 1) m) ≡ None → (is_long o ≡ false) × (first_long os ≡ None)
    by true e m f h = absurd cc
    by false e None f h = (e, f)
    by false e (Some k) f h = absurd cc

ended : (r : ReadSoFar) (done : List Operation) (q : KeyedAds) → r.refusal ≡ None → r.part ≡ [] → r.opened ≡ Some done → queue_after r.queue done ≡ Ok q → Settles r (fed r (codes "106\n")) done q
ended r done q good none opened does_it =
    let full = with_bytes r (codes "106") in
    let path : fed r (codes "106\n") ≡ takes_in full done (counted r.begun 1) (Ok q) =
    line_read r (codes "106") [] ends good none refl (omega arith) (record_is_read (codes "106") ends ends_record)
    ∙ ap (λ (o : Option (List Operation)). after_entry full o (Some ends)) opened
    ∙ ap (takes_in full done (counted r.begun 1)) does_it in
    subst (λ s. Settles r s done q) (sym path) (record { at_rest = record { good = refl; no_part = refl; none_open = refl }; listed = refl; queued = refl; sequenced = refl; sized = refl })

inner : (os done : List Operation) (r : ReadSoFar) (q : KeyedAds) → IsPrintable os → first_long os ≡ None → AreTexts os → r.refusal ≡ None → r.part ≡ [] → r.opened ≡ Some done
    → queue_after r.queue (done ++ os) ≡ Ok q → Settles r (fed r (ops_text os ++ codes "106\n")) (done ++ os) q
inner [] done r q are short texts good none opened does_it =
    subst (λ d. Settles r (fed r (codes "106\n")) d q) (sym (append-nil done)) (ended r done q good none opened (ap (queue_after r.queue) (sym (append-nil done)) ∙ does_it))
inner (o ∷ os) done r q are short texts good none opened does_it =
    let fits = none_long o os short in
    let full = with_bytes r (op_line o) in
    let next = goes_on full (Some (done ++ o ∷ [])) r.begun in
    let rest = ops_text os ++ codes "106\n" in
    let assoc : (done ++ o ∷ []) ++ os ≡ done ++ o ∷ os = append_assoc done (o ∷ []) os in
    let path : fed r (ops_text (o ∷ os) ++ codes "106\n") ≡ fed next rest =
    ap (fed r) (append_assoc (op_line o) (10 ∷ ops_text os) (codes "106\n"))
    ∙ line_read r (op_line o) rest (does o) good none (printed_line o are.0 fits.0) (printed_short o fits.0) (printed_entry o are.0 fits.0 texts.0)
    ∙ ap (λ (p : Option (List Operation)). fed (after_entry full p (Some (does o))) rest) opened in
    let settles = inner os (done ++ o ∷ []) next q are.1 fits.1 texts.1 refl refl refl (ap (queue_after r.queue) assoc ∙ does_it) in
    subst (λ s. Settles r s (done ++ o ∷ os) q) (sym path) (subst (λ d. Settles r (fed next rest) d q) assoc
    (record { at_rest = settles.at_rest; listed = settles.listed; queued = settles.queued; sequenced = settles.sequenced; sized = settles.sized }))

pub text_settles : (r : ReadSoFar) (os : List Operation) (q : KeyedAds) → IsPrintable os → first_long os ≡ None → AreTexts os → r.refusal ≡ None → r.part ≡ [] → r.opened ≡ None
    → queue_after r.queue os ≡ Ok q → Settles r (fed r (tx_text os)) os q
text_settles r os q are short texts good none opened does_it =
    let full = with_bytes r (codes "105") in
    let next = goes_on full (Some []) r.line in
    let rest = ops_text os ++ codes "106\n" in
    let path : fed r (tx_text os) ≡ fed next rest =
    line_read r (codes "105") rest begins good none refl (omega arith) (record_is_read (codes "105") begins begins_record)
    ∙ ap (λ (p : Option (List Operation)). fed (after_entry full p (Some begins)) rest) opened in
    let settles = inner os [] next q are short texts refl refl refl does_it in
    subst (λ s. Settles r s os q) (sym path)
    (record { at_rest = settles.at_rest; listed = settles.listed; queued = settles.queued; sequenced = settles.sequenced; sized = settles.sized })

-- ---- a beginning of the text

take_past : (line rest : List ℕ) (k : ℕ) → take (length line + 1 + k) (line ++ 10 ∷ rest) ≡ line ++ 10 ∷ take k rest
take_past [] rest k = ap (λ (n : ℕ). take n (10 ∷ rest)) (let one : 0 + 1 + k ≡ suc k = omega arith in one)
take_past (b ∷ line) rest k =
    ap (λ (n : ℕ). take n (b ∷ (line ++ 10 ∷ rest))) (let more : suc (length line) + 1 + k ≡ suc (length line + 1 + k) = omega arith in more)
    ∙ ap (λ (t : List ℕ). b ∷ t) (take_past line rest k)

-- within the line, or past its newline
within_or_past : (n m : ℕ) → (m ≤ n) ⊎ ((k : ℕ) × (m ≡ n + 1 + k))
within_or_past n m = by (leb m n) refl
  where
    by : (b : Bool) → leb m n ≡ b → (m ≤ n) ⊎ ((k : ℕ) × (m ≡ n + 1 + k))
    by true e = inl (leb-true m n e)
    by false e = let far = leb-false m n e in inr (m - (n + 1), omega arith)

part_stays : (r : ReadSoFar) (line more : List ℕ) (m : ℕ) → r.refusal ≡ None → HasNoNewline line → m ≤ length line → Stays r (fed r (take m (line ++ more)))
part_stays r line more m good one le =
    subst (λ s. Stays r s) (sym (fed_bytes r (take m (line ++ more)) good (take_line m line more le one)))
    (record { good = refl; listed = refl; queued = refl; wholly = refl; sequenced = refl })

inner_stays : (os done : List Operation) (r : ReadSoFar) (m : ℕ) → IsPrintable os → first_long os ≡ None → AreTexts os → r.refusal ≡ None → r.part ≡ [] → r.opened ≡ Some done
    → m < length (ops_text os ++ codes "106\n") → Stays r (fed r (take m (ops_text os ++ codes "106\n")))
inner_stays [] done r m are short texts good none opened less = part_stays r (codes "106") (10 ∷ []) m good refl (omega arith)
inner_stays (o ∷ os) done r m are short texts good none opened less =
    subst (λ t. Stays r (fed r (take m t))) (sym (append_assoc (op_line o) (10 ∷ ops_text os) (codes "106\n")))
    (by (within_or_past (length (op_line o)) m) (λ k small. inner_stays os (done ++ o ∷ []) next k are.1 fits.1 texts.1 refl refl refl small))
  where
    fits : (is_long o ≡ false) × (first_long os ≡ None)
    fits = none_long o os short

    next : ReadSoFar
    next = goes_on (with_bytes r (op_line o)) (Some (done ++ o ∷ [])) r.begun

    by : (m ≤ length (op_line o)) ⊎ ((k : ℕ) × (m ≡ length (op_line o) + 1 + k)) → ((k : ℕ) → k < length (ops_text os ++ codes "106\n") → Stays next (fed next (take k (ops_text os ++ codes "106\n"))))
        → Stays r (fed r (take m (op_line o ++ 10 ∷ (ops_text os ++ codes "106\n"))))
    by (inl le) rest = part_stays r (op_line o) (10 ∷ (ops_text os ++ codes "106\n")) m good (printed_line o are.0 fits.0) le
    by (inr past) rest =
        let tail = ops_text os ++ codes "106\n" in
        let k = past.0 in
        let m_is = past.1 in
        let size = ap length (append_assoc (op_line o) (10 ∷ ops_text os) (codes "106\n")) in
        let stays = rest k (omega (arith, size, m_is, length-append (op_line o) (10 ∷ tail))) in
        let path : fed r (take m (op_line o ++ 10 ∷ tail)) ≡ fed next (take k tail) =
        ap (λ (n : ℕ). fed r (take n (op_line o ++ 10 ∷ tail))) m_is
        ∙ ap (fed r) (take_past (op_line o) tail k)
        ∙ line_read r (op_line o) (take k tail) (does o) good none (printed_line o are.0 fits.0) (printed_short o fits.0) (printed_entry o are.0 fits.0 texts.0)
        ∙ ap (λ (p : Option (List Operation)). fed (after_entry (with_bytes r (op_line o)) p (Some (does o))) (take k tail)) opened in
        subst (λ s. Stays r s) (sym path) (record { good = stays.good; listed = stays.listed; queued = stays.queued; wholly = stays.wholly; sequenced = stays.sequenced })

pub text_stays : (r : ReadSoFar) (os : List Operation) (m : ℕ) → IsPrintable os → first_long os ≡ None → AreTexts os → r.refusal ≡ None → r.part ≡ [] → r.opened ≡ None
    → m < length (tx_text os) → Stays r (fed r (take m (tx_text os)))
text_stays r os m are short texts good none opened less = by (within_or_past 3 m)
  where
    next : ReadSoFar
    next = goes_on (with_bytes r (codes "105")) (Some []) r.line

    by : (m ≤ 3) ⊎ ((k : ℕ) × (m ≡ 3 + 1 + k)) → Stays r (fed r (take m (tx_text os)))
    by (inl le) = part_stays r (codes "105") (10 ∷ (ops_text os ++ codes "106\n")) m good refl le
    by (inr past) =
        let tail = ops_text os ++ codes "106\n" in
        let k = past.0 in
        let m_is = past.1 in
        let stays = inner_stays os [] next k are short texts refl refl refl (omega (arith, m_is)) in
        let path : fed r (take m (tx_text os)) ≡ fed next (take k tail) =
        ap (λ (n : ℕ). fed r (take n (tx_text os))) m_is
        ∙ ap (fed r) (take_past (codes "105") tail k)
        ∙ line_read r (codes "105") (take k tail) begins good none refl (omega arith) (record_is_read (codes "105") begins begins_record)
        ∙ ap (λ (p : Option (List Operation)). fed (after_entry (with_bytes r (codes "105")) p (Some begins)) (take k tail)) opened in
        subst (λ s. Stays r s) (sym path) (record { good = stays.good; listed = stays.listed; queued = stays.queued; wholly = stays.wholly; sequenced = stays.sequenced })
