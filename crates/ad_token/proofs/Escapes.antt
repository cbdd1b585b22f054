-- The bytes of strings, one character more at a time.
use Rattle.std.proofs.Common.{◌≡◌, ◌≢◌, ℕ, suc, ◌+◌, ◌/◌, ◌<◌, ◌≤◌, ◌&&◌, not, Bool, true, false, cond, eqb, ltb, List, [], ◌∷◌, ◌++◌, length, get_or, Option, Some, None, refl, ap, sym, ◌∙◌, arith, rules, tests, append_assoc}
use Rattle.std.specs.Option.{option_map}
use Rattle.std.specs.Str.{IsCharBoundary}
use Rattle.std.proofs.lemmas.Bool.{eqb-true, eq-eqb}
use Rattle.std.proofs.lemmas.Str.{IsCharBoundary-before_ascii}
use lib.Utf8.{encode, next}
use Rattle.ad_token.specs.Strings.{closing_quote, unescape_text}

-- a byte that is neither a quote nor a backslash
plain : (b : ℕ) (bs : List ℕ) → b ≢ 34 → b ≢ 92 → unescape_text false (b ∷ bs) ≡ b ∷ unescape_text false bs
plain b bs quote backslash = search (rules, tests)

plain_held : (b : ℕ) (bs : List ℕ) → b ≢ 34 → b ≢ 92 → unescape_text true (b ∷ bs) ≡ 92 ∷ b ∷ unescape_text false bs
plain_held b bs quote backslash = search (rules, tests)

high : (b : ℕ) (bs : List ℕ) → 128 ≤ b → unescape_text false (b ∷ bs) ≡ b ∷ unescape_text false bs
high b bs h = plain b bs (omega (arith, h)) (omega (arith, h))

high_held : (b : ℕ) (bs : List ℕ) → 128 ≤ b → unescape_text true (b ∷ bs) ≡ 92 ∷ b ∷ unescape_text false bs
high_held b bs h = plain_held b bs (omega (arith, h)) (omega (arith, h))

module _ (c : ℕ) (quote : c ≢ 34) (backslash : c ≢ 92) (rest : List ℕ) where
  after_two : (x : ℕ) → 128 ≤ x → unescape_text false (x ∷ rest) ≡ x ∷ unescape_text false rest
  after_two x h = high x rest h

  after_three : (x y : ℕ) → 128 ≤ x → 128 ≤ y → unescape_text false (x ∷ y ∷ rest) ≡ x ∷ y ∷ unescape_text false rest
  after_three x y h k = high x (y ∷ rest) h ∙ ap (λ l. x ∷ l) (high y rest k)

  after_four : (x y z : ℕ) → 128 ≤ x → 128 ≤ y → 128 ≤ z → unescape_text false (x ∷ y ∷ z ∷ rest) ≡ x ∷ y ∷ z ∷ unescape_text false rest
  after_four x y z h k m = high x (y ∷ z ∷ rest) h ∙ ap (λ l. x ∷ l) (after_three y z k m)

  abbrev bytes : Bool → Bool → Bool → List ℕ
  bytes p q r = cond p (c ∷ []) (cond q ((192 + c / 64) ∷ next c ∷ []) (cond r ((224 + c / 4096) ∷ next (c / 64) ∷ next c ∷ []) ((240 + c / 262144) ∷ next (c / 4096) ∷ next (c / 64) ∷ next c ∷ [])))

  by : (p q r : Bool) → unescape_text false (bytes p q r ++ rest) ≡ bytes p q r ++ unescape_text false rest
  by true q r = plain c rest quote backslash
  by false true r = after_three _ _ (omega arith) (omega arith)
  by false false true = after_four _ _ _ (omega arith) (omega arith) (omega arith)
  by false false false = high (240 + c / 262144) (next (c / 4096) ∷ next (c / 64) ∷ next c ∷ rest) (omega arith) ∙ ap (λ l. (240 + c / 262144) ∷ l) (after_four (next (c / 4096)) (next (c / 64)) (next c) (omega arith) (omega arith) (omega arith))

  by_held : (p q r : Bool) → unescape_text true (bytes p q r ++ rest) ≡ 92 ∷ bytes p q r ++ unescape_text false rest
  by_held true q r = plain_held c rest quote backslash
  by_held false true r = high_held _ (next c ∷ rest) (omega arith) ∙ ap (λ l. 92 ∷ (192 + c / 64) ∷ l) (after_two (next c) (omega arith))
  by_held false false true = high_held _ (next (c / 64) ∷ next c ∷ rest) (omega arith) ∙ ap (λ l. 92 ∷ (224 + c / 4096) ∷ l) (after_three (next (c / 64)) (next c) (omega arith) (omega arith))
  by_held false false false = high_held _ (next (c / 4096) ∷ next (c / 64) ∷ next c ∷ rest) (omega arith) ∙ ap (λ l. 92 ∷ (240 + c / 262144) ∷ l) (after_four (next (c / 4096)) (next (c / 64)) (next c) (omega arith) (omega arith) (omega arith))

-- so is a character that is neither
unescape_text_plain : (c : ℕ) → c ≢ 34 → c ≢ 92 → (rest : List ℕ) → unescape_text false (encode c ++ rest) ≡ encode c ++ unescape_text false rest
unfolding encode
unescape_text_plain c quote backslash rest = by c quote backslash rest (ltb c 128) (ltb c 2048) (ltb c 65536)

pub unescape_text_held : (c : ℕ) → c ≢ 34 → c ≢ 92 → (rest : List ℕ) → unescape_text true (encode c ++ rest) ≡ 92 ∷ encode c ++ unescape_text false rest
unfolding encode
unescape_text_held c quote backslash rest = by_held c quote backslash rest (ltb c 128) (ltb c 2048) (ltb c 65536)

unescape_text_quote : (rest : List ℕ) → unescape_text false (encode 34 ++ rest) ≡ encode 34 ++ unescape_text false rest
unfolding encode
unescape_text_quote rest = refl

pub unescape_text_other : (c : ℕ) → c ≢ 92 → (rest : List ℕ) → unescape_text false (encode c ++ rest) ≡ encode c ++ unescape_text false rest
unescape_text_other c backslash rest = by (eqb c 34) refl
  where
    by : (t : Bool) → eqb c 34 ≡ t → unescape_text false (encode c ++ rest) ≡ encode c ++ unescape_text false rest
    by true e = let q : c ≡ 34 = eqb-true c 34 e in rw q (unescape_text_quote rest)
    by false e = unescape_text_plain c (λ q. let t = eq-eqb c 34 q in cc) backslash rest

pub unescape_text_backslash : (rest : List ℕ) → unescape_text false (encode 92 ++ rest) ≡ unescape_text true rest
unfolding encode
unescape_text_backslash rest = refl

pub unescape_text_held_quote : (rest : List ℕ) → unescape_text true (encode 34 ++ rest) ≡ encode 34 ++ unescape_text false rest
unfolding encode
unescape_text_held_quote rest = refl

pub unescape_text_held_backslash : (rest : List ℕ) → unescape_text true (encode 92 ++ rest) ≡ encode 92 ++ unescape_text false rest
unfolding encode
unescape_text_held_backslash rest = refl

pub ruleset one_more = (unescape_text_other, unescape_text_held, unescape_text_backslash, unescape_text_held_quote, unescape_text_held_backslash)

-- a text to which a character was added, with what follows
pub wrote : (old new rest : List ℕ) (c : ℕ) → new ≡ old ++ encode c → c ≢ 92 → new ++ unescape_text false rest ≡ old ++ unescape_text false (encode c ++ rest)
wrote old new rest c e backslash = rw e (append_assoc old (encode c) (unescape_text false rest) ∙ ap (λ l. old ++ l) (sym (unescape_text_other c backslash rest)))

pub wrote_held : (old between new rest : List ℕ) (c : ℕ) → between ≡ old ++ 92 ∷ [] → new ≡ between ++ encode c → c ≢ 34 → c ≢ 92 → new ++ unescape_text false rest ≡ old ++ unescape_text true (encode c ++ rest)
wrote_held old between new rest c d e quote backslash =
    rw (e, d) (append_assoc (old ++ 92 ∷ []) (encode c) (unescape_text false rest) ∙ append_assoc old (92 ∷ []) (encode c ++ unescape_text false rest) ∙ ap (λ l. old ++ l) (sym (unescape_text_held c quote backslash rest)))

-- the closing quote is one
abbrev pub IsQuote : List ℕ → ℕ → Type 0
IsQuote bs n = (n < length bs) × (get_or bs n 0 ≡ 34)

pub one_less : (o : Option ℕ) (n : ℕ) → option_map (λ m. m + 1) o ≡ Some n → (m : ℕ) × (o ≡ Some m) × (n ≡ m + 1)
one_less None n e = cc
one_less (Some m) n e = (m, refl, cc)

pub closing_at : (escaped : Bool) (bs : List ℕ) (n : ℕ) → closing_quote escaped bs ≡ Some n → IsQuote bs n
closing_at escaped [] n e = cc
closing_at escaped (b ∷ bs) n e = at (eqb b 10) (eqb b 34) escaped refl (λ k m h. closing_at k bs m h) e
  where
    later : (o : Option ℕ) → ((m : ℕ) → o ≡ Some m → IsQuote bs m) → option_map (λ m. m + 1) o ≡ Some n → IsQuote (b ∷ bs) n
    later o rest h =
        let m = one_less o n h in
        let r = rest m.0 m.1 in
        let one : n ≡ suc m.0 = omega (arith, m.2) in
        rw one (omega (arith, r.0), r.1)

    at : (t u k : Bool) → eqb b 34 ≡ u → ((k : Bool) (m : ℕ) → closing_quote k bs ≡ Some m → IsQuote bs m)
        → cond t None (cond (u && not k) (Some 0) (option_map (λ m. m + 1) (closing_quote (eqb b 92 && not k) bs))) ≡ Some n → IsQuote (b ∷ bs) n
    at true u k is rest h = cc
    at false true false is rest h = let first : n ≡ 0 = cc in rw first (omega arith, eqb-true b 34 is)
    at false true true is rest h = later _ (λ m p. rest (eqb b 92 && not true) m p) h
    at false false k is rest h = later _ (λ m p. rest (eqb b 92 && not k) m p) h

pub closing_boundary : (bs : List ℕ) (n : ℕ) → closing_quote false bs ≡ Some n → IsCharBoundary bs n
closing_boundary bs n e =
    let q = closing_at false bs n e in
    IsCharBoundary-before_ascii bs n q.0 (omega (arith, q.1))
