-- Pieces that are written, and the limit.
use Rattle.std.proofs.Common.{◌≡◌, ℕ, zero, suc, slice_get, get_or, ◌+◌, ◌-◌, ◌<◌, ◌≤◌, Bool, true, false, cond, ltb, List, [], ◌∷◌, ◌++◌, length, take, drop, length-append, Some, None, ◌⊎◌, inl, inr, refl, ap, sym, ◌∙◌, append_assoc, arith}
use Rattle.std.proofs.lemmas.Bool.{cases_lt, lt-ltb, le-ltb}
use Rattle.std.proofs.lemmas.List.{take_more, take-append-le, drop-append-le, length-drop}
use Rattle.line_text.specs.Expansion.{piece, joined, total, first_above}
use Rattle.std.specs.Borrow.{Bor}
use Rattle.std.specs.Option.{option_map}
use Rattle.std.proofs.lemmas.Option.{slice_get-map, slice_get-get_or}
use Rattle.line_text.specs.declared.error.MacroError.{MacroError}
use Rattle.line_text.specs.declared.error.MacroError.TheVariants as fault
use Rattle.line_text.specs.Above.{between, texts, IsAbove, OneIsAbove}

pub append_none : {A : Type 0} (xs : List A) → xs ++ [] ≡ xs
append_none [] = refl
append_none (x ∷ xs) = ap (λ l. x ∷ l) (append_none xs)

pub total-append : (xs ys : List (List ℕ)) → total (xs ++ ys) ≡ total xs + total ys
total-append [] ys = let e : total ys ≡ 0 + total ys = omega arith in e
total-append (x ∷ xs) ys = omega (arith, total-append xs ys)

pub total-piece : (s : List ℕ) → total (piece s) ≡ length s
total-piece [] = refl
total-piece (b ∷ s) = let e : length (b ∷ s) + 0 ≡ length (b ∷ s) = omega arith in e

pub length-joined : (ss : List (List ℕ)) → length (joined ss) ≡ total ss
length-joined [] = refl
length-joined (s ∷ ss) = length-append s (joined ss) ∙ ap (λ n. length s + n) (length-joined ss)

pub joined-append : (xs ys : List (List ℕ)) → joined (xs ++ ys) ≡ joined xs ++ joined ys
joined-append [] ys = refl
joined-append (x ∷ xs) ys = ap (λ l. x ++ l) (joined-append xs ys) ∙ sym (append_assoc x (joined xs) (joined ys))

-- ---- the first piece above the limit
first_here : (n : ℕ) (s : List ℕ) (ss : List (List ℕ)) → 65536 < n + length s → first_above n (s ∷ ss) ≡ Some (n + length s)
first_here n s ss h = ap (λ b. cond b (Some (n + length s)) (first_above (n + length s) ss)) (lt-ltb 65536 (n + length s) h)

first_later : (n : ℕ) (s : List ℕ) (ss : List (List ℕ)) → n + length s ≤ 65536 → first_above n (s ∷ ss) ≡ first_above (n + length s) ss
first_later n s ss h = ap (λ b. cond b (Some (n + length s)) (first_above (n + length s) ss)) (le-ltb 65536 (n + length s) h)

-- what is written fits: the first above is among the rest
pub first_above-append : (n : ℕ) (xs ys : List (List ℕ)) → n + total xs ≤ 65536 → first_above n (xs ++ ys) ≡ first_above (n + total xs) ys
first_above-append n [] ys h = ap (λ m. first_above m ys) (let e : n ≡ n + 0 = omega arith in e)
first_above-append n (x ∷ xs) ys h =
    first_later n x (xs ++ ys) (omega arith)
    ∙ first_above-append (n + length x) xs ys (omega arith)
    ∙ ap (λ m. first_above m ys) (let e : (n + length x) + total xs ≡ n + (length x + total xs) = omega arith in e)

-- where one is above, it stays the first
pub first_above-more : (n k : ℕ) (xs ys : List (List ℕ)) → first_above n xs ≡ Some k → first_above n (xs ++ ys) ≡ Some k
first_above-more n k [] ys h = absurd (no h)
  where
    no : None ≡ Some k → ⊥
    no h = cc
first_above-more n k (x ∷ xs) ys h = by (ltb 65536 (n + length x)) h (first_above-more (n + length x) k xs ys)
  where
    by : (b : Bool) → cond b (Some (n + length x)) (first_above (n + length x) xs) ≡ Some k → (first_above (n + length x) xs ≡ Some k → first_above (n + length x) (xs ++ ys) ≡ Some k) → cond b (Some (n + length x)) (first_above (n + length x) (xs ++ ys)) ≡ Some k
    by true h rest = h
    by false h rest = rest h

-- where the whole is above the limit, a first piece is
pub some_above : (n : ℕ) (ss : List (List ℕ)) → n ≤ 65536 → 65536 < n + total ss → (k : ℕ) × (first_above n ss ≡ Some k)
some_above n [] fits over = absurd (omega (arith, fits, over))
some_above n (s ∷ ss) fits over = by (cases_lt 65536 (n + length s)) (some_above (n + length s) ss)
  where
    by : (65536 < n + length s) ⊎ (n + length s ≤ 65536) → (n + length s ≤ 65536 → 65536 < (n + length s) + total ss → (k : ℕ) × (first_above (n + length s) ss ≡ Some k)) → (k : ℕ) × (first_above n (s ∷ ss) ≡ Some k)
    by (inl h) rest = (n + length s, first_here n s ss h)
    by (inr h) rest =
        let more = rest h (omega (arith, over)) in
        (more.0, first_later n s ss h ∙ more.1)

-- a piece that brings what is written above the limit
pub above_by_piece : (written : List (List ℕ)) (s : List ℕ) (k : ℕ) → total written ≤ 65536 → k ≡ total written + length s → 65536 < total written + length s → first_above 0 (written ++ piece s) ≡ Some k
above_by_piece written [] k fits is h = absurd (omega arith)
above_by_piece written (b ∷ s) k fits is h =
    first_above-append 0 written ((b ∷ s) ∷ []) (omega arith)
    ∙ ap (λ m. first_above m ((b ∷ s) ∷ [])) (let e : 0 + total written ≡ total written = omega arith in e)
    ∙ first_here (total written) (b ∷ s) [] h ∙ ap Some (sym is)

-- pieces of which one brings it above the limit
pub above_by_pieces : (written ss more : List (List ℕ)) (k : ℕ) → total written ≤ 65536 → first_above (total written) ss ≡ Some k → first_above 0 (written ++ (ss ++ more)) ≡ Some k
above_by_pieces written ss more k fits h =
    first_above-append 0 written (ss ++ more) (omega arith)
    ∙ ap (λ m. first_above m (ss ++ more)) (let e : 0 + total written ≡ total written = omega arith in e)
    ∙ first_above-more (total written) k ss more h

-- ---- lists that grow at their end
pub between-append : (from to : ℕ) (xs ys : List (List ℕ)) → from ≤ to → to ≤ length xs → between from to (xs ++ ys) ≡ between from to xs
between-append from to xs ys ordered within =
    ap (take (to - from)) (drop-append-le from xs ys (omega arith))
    ∙ take-append-le (to - from) (drop from xs) ys (omega (arith, length-drop from xs))

pub texts-push : (xs : List (Bor (List ℕ))) (x : Bor (List ℕ)) → texts (xs ++ x ∷ []) ≡ texts xs ++ x.now ∷ []
texts-push [] x = refl
texts-push (y ∷ xs) x = ap (λ l. y.now ∷ l) (texts-push xs x)

pub total-push : (xs new : List (Bor (List ℕ))) (x : Bor (List ℕ)) → new ≡ xs ++ x ∷ [] → total (texts new) ≡ total (texts xs) + length x.now
total-push xs new x is = ap (λ l. total (texts l)) is ∙ ap total (texts-push xs x) ∙ total-append (texts xs) (x.now ∷ []) ∙ (let e : total (texts xs) + (length x.now + 0) ≡ total (texts xs) + length x.now = omega arith in e)

-- ---- pieces by their places
slice_get-front : (xs ys : List (List ℕ)) (k : ℕ) → k < length xs → slice_get (xs ++ ys) k ≡ slice_get xs k
slice_get-front [] ys k h = absurd (omega arith)
slice_get-front (x ∷ xs) ys zero h = refl
slice_get-front (x ∷ xs) ys (suc k) h = slice_get-front xs ys k (omega arith)

slice_get-drop : (xs : List (List ℕ)) (from n : ℕ) → slice_get (drop from xs) n ≡ slice_get xs (from + n)
slice_get-drop xs zero n = ap (slice_get xs) (let e : n ≡ 0 + n = omega arith in e)
slice_get-drop [] (suc from) n = refl
slice_get-drop (x ∷ xs) (suc from) n = slice_get-drop xs from n ∙ ap (slice_get (x ∷ xs)) (let e : suc (from + n) ≡ suc from + n = omega arith in e)

take_split : (xs : List (List ℕ)) (n m : ℕ) (x : List ℕ) → slice_get xs n ≡ Some x → take (suc (n + m)) xs ≡ take n xs ++ x ∷ take m (drop (suc n) xs)
take_split [] n m x h = absurd (no h)
  where
    no : None ≡ Some x → ⊥
    no h = cc
take_split (y ∷ xs) zero m x h =
    let is : y ≡ x = by h in
    ap (λ n. y ∷ take n xs) (let e : 0 + m ≡ m = omega arith in e) ∙ ap (λ z. z ∷ take m xs) is
  where
    by : Some y ≡ Some x → y ≡ x
    by h = cc
take_split (y ∷ xs) (suc n) m x h =
    ap (λ k. y ∷ take k xs) (let e : suc n + m ≡ suc (n + m) = omega arith in e) ∙ ap (λ l. y ∷ l) (take_split xs n m x h)

pub between_split : (from k to : ℕ) (w : List (List ℕ)) (x : List ℕ) → from ≤ k → k < to → slice_get w k ≡ Some x → (rest : List (List ℕ)) × (between from to w ≡ between from k w ++ x ∷ rest)
between_split from k to w x h less at =
    let there : slice_get (drop from w) (k - from) ≡ Some x = slice_get-drop w from (k - from) ∙ ap (slice_get w) (let e : from + (k - from) ≡ k = omega arith in e) ∙ at in
    (take (to - suc k) (drop (suc (k - from)) (drop from w)), ap (λ n. take n (drop from w)) (let e : to - from ≡ suc ((k - from) + (to - suc k)) = omega arith in e) ∙ take_split (drop from w) (k - from) (to - suc k) x there)

pub between_more : (from k : ℕ) (w : List (List ℕ)) (x : List ℕ) → from ≤ k → slice_get w k ≡ Some x → between from (k + 1) w ≡ between from k w ++ x ∷ []
between_more from k w x h at =
    let there : slice_get (drop from w) (k - from) ≡ Some x = slice_get-drop w from (k - from) ∙ ap (slice_get w) (let e : from + (k - from) ≡ k = omega arith in e) ∙ at in
    ap (λ n. take n (drop from w)) (let e : (k + 1) - from ≡ suc ((k - from) + 0) = omega arith in e) ∙ take_split (drop from w) (k - from) 0 x there

-- the piece at a place of what was there first
pub piece_at : (items : List (Bor (List ℕ))) (old more : List (List ℕ)) (k : ℕ) (x : Bor (List ℕ)) → texts items ≡ old ++ more → k < length old → slice_get items k ≡ Some x → slice_get old k ≡ Some x.now
piece_at items old more k x is less at =
    sym (slice_get-front old more k less) ∙ ap (λ l. slice_get l k) (sym is) ∙ slice_get-map (λ p. p.now) items k ∙ ap (option_map (λ p. p.now)) at

pub again_more : (self old new : List (List ℕ)) (from k : ℕ) (x : List ℕ) → self ≡ old ++ between from k old → new ≡ self ++ x ∷ [] → from ≤ k → slice_get old k ≡ Some x → new ≡ old ++ between from (k + 1) old
again_more self old new from k x is add h at =
    add ∙ ap (λ l. l ++ x ∷ []) is ∙ append_assoc old (between from k old) (x ∷ []) ∙ ap (λ l. old ++ l) (sym (between_more from k old x h at))

pub again_above : (self old : List (List ℕ)) (from k to : ℕ) (x : List ℕ) (e : MacroError) → self ≡ old ++ between from k old → total self ≤ 65536 → from ≤ k → k < to → slice_get old k ≡ Some x → IsAbove (total self + length x) e → OneIsAbove (total old) (between from to old) e
again_above self old from k to x (fault.Bad n) is fits h less at above = absurd above
again_above self old from k to x (fault.Circular n) is fits h less at above = absurd above
again_above self old from k to x fault.Memory is fits h less at above = tt
again_above self old from k to x (fault.TooLong n) is fits h less at above =
    let parts = between_split from k to old x h less at in
    let sum : total self ≡ total old + total (between from k old) = ap total is ∙ total-append old (between from k old) in
    ap (first_above (total old)) parts.1
    ∙ first_above-append (total old) (between from k old) (x ∷ parts.0) (omega arith)
    ∙ first_here (total old + total (between from k old)) x parts.0 (omega arith)
    ∙ ap Some (let e : (total old + total (between from k old)) + length x ≡ n = omega arith in e)

length-texts : (ps : List (Bor (List ℕ))) → length (texts ps) ≡ length ps
length-texts [] = refl
length-texts (p ∷ ps) = ap (λ n. suc n) (length-texts ps)

-- the same, of a piece that was read
pub piece_read : (items : List (Bor (List ℕ))) (self old more : List (List ℕ)) (k : ℕ) (x : Bor (List ℕ)) → texts items ≡ self → self ≡ old ++ more → k < length old → x ≡ get_or items k x → slice_get old k ≡ Some x.now
piece_read items self old more k x view is less read =
    let long : length items ≡ length old + length more = sym (length-texts items) ∙ ap length (view ∙ is) ∙ length-append old more in
    piece_at items old more k x (view ∙ is) less (slice_get-get_or items k x (omega arith) ∙ ap Some (sym read))

pub more_joined : (ps : List (Bor (List ℕ))) (i : ℕ) (d : Bor (List ℕ)) → i < length ps → joined (texts (take i ps)) ++ (get_or ps i d).now ≡ joined (texts (take (i + 1) ps))
more_joined ps i d h =
    sym (ap (λ l. joined (texts l)) (take_more ps i d h)
    ∙ ap joined (texts-push (take i ps) (get_or ps i d))
    ∙ joined-append (texts (take i ps)) ((get_or ps i d).now ∷ [])
    ∙ ap (λ l. joined (texts (take i ps)) ++ l) (append_none (get_or ps i d).now))

pub nil_of_length : {A : Type 0} (xs : List A) → length xs ≡ 0 → xs ≡ []
nil_of_length [] h = refl
nil_of_length (x ∷ xs) h = absurd (omega arith)
