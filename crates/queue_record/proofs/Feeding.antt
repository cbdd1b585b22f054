-- Reading goes on, byte by byte.
use Rattle.std.proofs.Common.{◌≡◌, ℕ, zero, suc, ◌+◌, ◌-◌, ◌<◌, ◌^◌, ◌==◌, ◌&&◌, min, not, Bool, true, false, cond, ltb, List, [], ◌∷◌, ◌++◌, length, take, Option, Some, None, Result, Ok, Err, OnOk, refl, ap, sym, ◌∙◌, subst, arith, append_assoc, length-append}
use Rattle.std.specs.List.{list_all}
use Rattle.std.specs.Result.{is_ok}
use Rattle.std.proofs.lemmas.Bool.Decides.{nat_tests}
use Rattle.std.proofs.lemmas.List.{append-nil}
use Rattle.queue_record.specs.declared.error.RecordError.{RecordError}
use Rattle.queue_record.specs.ReadSoFar.{ReadSoFar, refused, counted, kept_all, counted_all, in_line, after_byte, after_line, with_bytes, fed, Gives, HasNoNewline}

pub fed_append : (r : ReadSoFar) (xs ys : List ℕ) → fed r (xs ++ ys) ≡ fed (fed r xs) ys
fed_append r [] ys = refl
fed_append r (x ∷ xs) ys = fed_append (after_byte r.refusal r x) xs ys

first_and_rest : (a b : Bool) → (a && b) ≡ true → (a ≡ true) × (b ≡ true)
first_and_rest true true h = (refl, refl)
first_and_rest true false h = absurd cc
first_and_rest false b h = absurd cc

no_newline : (b : ℕ) → not (b == 10) ≡ true → (b == 10) ≡ false
no_newline b h = by (b == 10) h
  where
    by : (t : Bool) → not t ≡ true → t ≡ false
    by true h = absurd cc
    by false h = refl

-- a byte of a line
byte_in_line : (o : Option RecordError) (r : ReadSoFar) (b : ℕ) → o ≡ None → not (b == 10) ≡ true → after_byte o r b ≡ in_line r b
byte_in_line None r b none h = ap (λ (t : Bool). cond t (after_line r) (in_line r b)) (no_newline b h)
byte_in_line (Some e) r b none h = absurd cc

newline_ends : (o : Option RecordError) (r : ReadSoFar) → o ≡ None → after_byte o r 10 ≡ after_line r
newline_ends None r none = refl
newline_ends (Some e) r none = absurd cc

same_open : (r : ReadSoFar) → r.refusal ≡ None → r ≡ with_bytes r []
same_open r none = λ i. record { list = r.list; queue = r.queue; opened = r.opened; begun = r.begun; line = r.line; part = r.part; size = r.size; whole = r.whole; sequence = r.sequence; refusal = none i }

-- bytes of one line
pub fed_bytes : (r : ReadSoFar) (xs : List ℕ) → r.refusal ≡ None → HasNoNewline xs → fed r xs ≡ with_bytes r xs
fed_bytes r [] none h = same_open r none
fed_bytes r (x ∷ xs) none h =
    let both = first_and_rest (not (x == 10)) (list_all (λ b. not (b == 10)) xs) h in
    ap (λ (s : ReadSoFar). fed s xs) (byte_in_line r.refusal r x none both.0) ∙ fed_bytes (in_line r x) xs refl both.1

-- bytes of one line and its newline
pub fed_line : (r : ReadSoFar) (xs ys : List ℕ) → r.refusal ≡ None → HasNoNewline xs → fed r (xs ++ 10 ∷ ys) ≡ fed (after_line (with_bytes r xs)) ys
fed_line r xs ys none h =
    fed_append r xs (10 ∷ ys)
    ∙ ap (λ (s : ReadSoFar). fed s (10 ∷ ys)) (fed_bytes r xs none h)
    ∙ ap (λ (s : ReadSoFar). fed s ys) (newline_ends None (with_bytes r xs) refl)

-- a refusal stays
pub fed_refused : (e : RecordError) (bs : List ℕ) → fed (refused e) bs ≡ refused e
fed_refused e [] = refl
fed_refused e (b ∷ bs) = fed_refused e bs

-- ---- what is kept of a line

pub kept_full : (part bs : List ℕ) → 16384 < length part → kept_all part bs ≡ part
kept_full part [] far = refl
kept_full part (b ∷ bs) far =
    let full : ltb 16384 (length part) ≡ true = grind (arith, nat_tests) in
    ap (λ (t : Bool). kept_all (cond t part (part ++ b ∷ [])) bs) full ∙ kept_full part bs far

take_none : (bs : List ℕ) (n : ℕ) → n ≡ 0 → take n bs ≡ []
take_none bs zero h = refl
take_none bs (suc n) h = absurd (omega arith)

pub kept_is : (part bs : List ℕ) (n : ℕ) → n ≡ 16385 - length part → part ++ take n bs ≡ kept_all part bs
kept_is part [] zero h = append-nil part
kept_is part [] (suc n) h = append-nil part
kept_is part (b ∷ bs) zero h =
    append-nil part ∙ sym (kept_full part (b ∷ bs) (omega arith))
kept_is part (b ∷ bs) (suc n) h =
    let room : ltb 16384 (length part) ≡ false = grind (arith, nat_tests) in
    let size = length-append part (b ∷ []) in
    sym (append_assoc part (b ∷ []) (take n bs))
    ∙ kept_is (part ++ b ∷ []) bs n (omega arith)
    ∙ sym (ap (λ (t : Bool). kept_all (cond t part (part ++ b ∷ [])) bs) room)

pub counted_is : (n : ℕ) (bs : List ℕ) → n < 2 ^ 64 → min (n + length bs) (2 ^ 64 - 1) ≡ counted_all n bs
counted_is n [] small = omega arith
counted_is n (b ∷ bs) small =
    let rest = counted_is (counted n 1) bs (omega arith) in
    let same : min (n + suc (length bs)) (2 ^ 64 - 1) ≡ min (counted n 1 + length bs) (2 ^ 64 - 1) = omega arith in
    same ∙ rest

-- ---- calls one after the other

-- what is left of the piece comes to what the whole comes to
pub gives_along : {T : Type 0} (result : Result T RecordError) (new r s : ReadSoFar) → Gives result new r → r ≡ s → Gives result new s
gives_along result new r s g e = subst (λ x. Gives result new x) e g

pub kept_if_ok : {T E : Type 0} (r : Result T E) (new old more all : List ℕ) → new ≡ cond (is_ok r) (old ++ more) old → old ++ more ≡ all → OnOk r (new ≡ all)
kept_if_ok (Ok x) new old more all e f = e ∙ f
kept_if_ok (Err x) new old more all e f = tt
