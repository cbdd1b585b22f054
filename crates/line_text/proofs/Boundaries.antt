-- Where a text may be cut.
use Rattle.std.proofs.Common.{◌≡◌, ℕ, zero, suc, ◌+◌, ◌-◌, ◌<◌, ◌≤◌, ◌==◌, ◌&&◌, ◌||◌, not, ltb, true≢false, Bool, true, false, cond, List, [], ◌∷◌, length, drop, get_or, refl, ap, sym, ◌∙◌, subst, arith, ⊎_elim, drop-cons}
use Rattle.std.specs.List.{prefix_len}
use Rattle.std.specs.Str.{IsUtf8, IsCharBoundary}
use Rattle.std.proofs.lemmas.Bool.Decides.{nat_tests}
use Rattle.std.proofs.lemmas.Bool.{cases_lt, eqb-true}
use Rattle.std.proofs.lemmas.List.Sums.{prefix_len_passes, prefix_len_stops, prefix_len-le-length}
use Rattle.std.proofs.lemmas.List.{drop_all}
use Rattle.std.proofs.lemmas.Str.{IsCharBoundary-start, IsCharBoundary-end, IsCharBoundary-after_ascii, IsCharBoundary-before_ascii}
use Rattle.line_text.specs.References.{is_name_byte, stretch_length, begins_reference, letters_after, before_close}
use Rattle.line_text.specs.Lines.{ends_in_backslash}

pub past_first : (bs : List ℕ) (b : ℕ) → IsUtf8 bs → 0 < length bs → get_or bs 0 0 ≡ b → b < 128 → IsCharBoundary bs 1
past_first bs b utf8 some e h = IsCharBoundary-after_ascii bs 0 utf8 some (omega arith)

name_byte_ascii : (b : ℕ) → is_name_byte b ≡ true → b < 128
name_byte_ascii b h = grind (arith, nat_tests)

run_boundary : (p : ℕ → Bool) → ((b : ℕ) → p b ≡ true → b < 128) → (bs : List ℕ) (n : ℕ) → n ≡ prefix_len p bs → IsUtf8 bs → IsCharBoundary bs n
run_boundary p ascii bs zero e utf8 = IsCharBoundary-start bs utf8
run_boundary p ascii bs (suc n) e utf8 =
    let le : prefix_len p bs ≤ length bs = prefix_len-le-length p bs in
    let one : n + 1 ≡ suc n = omega arith in
    subst (λ m. IsCharBoundary bs m) one (IsCharBoundary-after_ascii bs n utf8 (omega arith) (ascii _ (prefix_len_passes p bs n 0 (omega arith))))

pub name_boundary : (bs : List ℕ) → IsUtf8 bs → IsCharBoundary bs (prefix_len is_name_byte bs)
name_boundary bs utf8 = run_boundary is_name_byte name_byte_ascii bs _ refl utf8

-- a byte that is not 0 is there
there : (bs : List ℕ) (n b : ℕ) → get_or bs n 0 ≡ b → 0 < b → n < length bs
there [] zero b e h = absurd (omega arith)
there [] (suc n) b e h = absurd (omega arith)
there (x ∷ bs) zero b e h = omega arith
there (x ∷ bs) (suc n) b e h = let less : n < length bs = there bs n b e h in omega arith

-- before a backslash at the end
pub before_last : (bs : List ℕ) → ends_in_backslash bs ≡ true → IsCharBoundary bs (length bs - 1)
before_last bs h =
    let is : get_or bs (length bs - 1) 0 ≡ 92 = eqb-true _ _ h in
    IsCharBoundary-before_ascii bs (length bs - 1) (there bs (length bs - 1) 92 is (omega arith)) (omega arith)

-- after `$(`
pub past_open : (bs : List ℕ) → IsUtf8 bs → get_or bs 1 0 ≡ 40 → (2 ≤ length bs) × IsCharBoundary bs 2
past_open bs utf8 is =
    let less : 1 < length bs = there bs 1 40 is (omega arith) in
    (omega arith, IsCharBoundary-after_ascii bs 1 utf8 less (omega arith))

close_is : (bs : List ℕ) → before_close bs < length bs → get_or bs (before_close bs) 0 ≡ 41
close_is bs less = grind (arith, nat_tests, prefix_len_stops (λ b. not (b == 41)) bs 0 less)

pub close_boundary : (bs : List ℕ) → before_close bs < length bs → IsCharBoundary bs (before_close bs)
close_boundary bs less = IsCharBoundary-before_ascii bs (before_close bs) less (omega (arith, close_is bs less))

pub past_close : (bs : List ℕ) → IsUtf8 bs → before_close bs < length bs → IsCharBoundary bs (before_close bs + 1)
past_close bs utf8 less = IsCharBoundary-after_ascii bs (before_close bs) utf8 less (omega (arith, close_is bs less))

-- a reference begins with `$`
begins_with_dollar : (bs : List ℕ) → begins_reference bs ≡ true → get_or bs 0 0 ≡ 36
unfolding begins_reference
begins_with_dollar bs h = by (get_or bs 0 0 == 36) refl h
  where
    by : (b : Bool) → (get_or bs 0 0 == 36) ≡ b → (b && ((get_or bs 1 0 == 40) || (((get_or bs 1 0 == 36) && (get_or bs 2 0 == 40)) || (ltb 0 (letters_after bs) && (get_or bs (1 + letters_after bs) 0 == 40))))) ≡ true → get_or bs 0 0 ≡ 36
    by true e k = eqb-true _ _ e
    by false e k = absurd (true≢false (sym k))

stretch_le : (bs : List ℕ) → stretch_length bs ≤ length bs
stretch_le [] = omega arith
stretch_le (b ∷ bs) = by (begins_reference (b ∷ bs)) (stretch_le bs)
  where
    by : (t : Bool) → stretch_length bs ≤ length bs → cond t 0 (1 + stretch_length bs) ≤ length (b ∷ bs)
    by true h = omega arith
    by false h = omega arith

-- where plain text ends, a reference begins or the text ends
ends_at : (bs : List ℕ) → stretch_length bs < length bs → get_or bs (stretch_length bs) 0 ≡ 36
ends_at [] h = absurd (omega arith)
ends_at (b ∷ bs) h = by (begins_reference (b ∷ bs)) refl h (ends_at bs)
  where
    by : (t : Bool) → begins_reference (b ∷ bs) ≡ t → cond t 0 (1 + stretch_length bs) < length (b ∷ bs) → (stretch_length bs < length bs → get_or bs (stretch_length bs) 0 ≡ 36) → get_or (b ∷ bs) (cond t 0 (1 + stretch_length bs)) 0 ≡ 36
    by true e less rest = begins_with_dollar (b ∷ bs) e
    by false e less rest =
        let one : suc (stretch_length bs) ≡ 1 + stretch_length bs = omega arith in
        subst (λ n. get_or (b ∷ bs) n 0 ≡ 36) one (rest (omega arith))

pub stretch_boundary : (bs : List ℕ) → IsUtf8 bs → IsCharBoundary bs (stretch_length bs)
stretch_boundary bs utf8 = ⊎_elim inside all (cases_lt (stretch_length bs) (length bs))
  where
    inside : stretch_length bs < length bs → IsCharBoundary bs (stretch_length bs)
    inside less = IsCharBoundary-before_ascii bs (stretch_length bs) less (omega (arith, ends_at bs less))

    all : length bs ≤ stretch_length bs → IsCharBoundary bs (stretch_length bs)
    all h = subst (λ n. IsCharBoundary bs n) (let e : length bs ≡ stretch_length bs = omega (arith, stretch_le bs) in e) (IsCharBoundary-end bs)

-- ---- one byte more of plain text
pub stretch_stops : (bs : List ℕ) → begins_reference bs ≡ true → stretch_length bs ≡ 0
stretch_stops [] h = refl
stretch_stops (b ∷ bs) h = ap (λ t. cond t 0 (1 + stretch_length bs)) h

pub stretch_goes_on : (bs : List ℕ) (n at : ℕ) → at < length bs → begins_reference (drop at bs) ≡ false → n ≡ at + stretch_length (drop at bs) → n ≡ (at + 1) + stretch_length (drop (at + 1) bs)
stretch_goes_on bs n at less plain is =
    let cut : drop at bs ≡ get_or bs at 0 ∷ drop (suc at) bs = drop-cons bs at 0 less in
    let here : stretch_length (drop at bs) ≡ 1 + stretch_length (drop (suc at) bs) =
    ap stretch_length cut ∙ ap (λ t. cond t 0 (1 + stretch_length (drop (suc at) bs))) (sym (ap begins_reference cut) ∙ plain) in
    let one : suc at ≡ at + 1 = omega arith in
    subst (λ k. n ≡ (at + 1) + stretch_length (drop k bs)) one (omega (arith, is, here))

pub stretch_at_end : (bs : List ℕ) (n at : ℕ) → length bs ≤ at → n ≡ at + stretch_length (drop at bs) → n ≡ at
stretch_at_end bs n at h is = is ∙ ap (λ l. at + stretch_length l) (drop_all at bs h) ∙ (let e : at + 0 ≡ at = omega arith in e)
