-- Texts of literals, one character or item more at a time.
use Rattle.std.proofs.Common.{◌≡◌, ◌≢◌, ℕ, zero, suc, ◌+◌, ◌/◌, ◌<◌, ◌≤◌, Bool, true, false, cond, ltb, List, [], ◌∷◌, ◌++◌, length, map, take, get_or, codes, ap, sym, ◌∙◌, refl, arith, rules, tests, append_assoc}
use Rattle.std.specs.List.{flat_map}
use Rattle.std.proofs.lemmas.Grind.{flat_map-append}
use Rattle.std.proofs.lemmas.List.{append-nil, length-map, length-take-le}
use Rattle.std.proofs.lemmas.Str.{encodes-append}
use lib.Utf8.{encode, encodes, next}
use Rattle.ad_value.specs.declared.value.Value.{Value}
use Rattle.ad_value.specs.Content.{Content, content, contents_of}
use Rattle.ad_value.proofs.ContentLemmas.{map-content-more}
use Rattle.ad_value.specs.Literal.{escape_text, literal_text, items_text, more_items_text, item_separator}

-- a byte that is neither a quote nor a backslash is written as it is
escape_text-other : (b : ℕ) → b ≢ 34 → b ≢ 92 → escape_text b ≡ b ∷ []
escape_text-other b quote backslash = search (rules, tests)

escape_text-high : (b : ℕ) → 128 ≤ b → escape_text b ≡ b ∷ []
escape_text-high b h = escape_text-other b (omega (arith, h)) (omega (arith, h))

-- so is a character
pub flat_map-escape_text-encode : (c : ℕ) → c ≢ 34 → c ≢ 92 → flat_map escape_text (encode c) ≡ encode c
unfolding encode
flat_map-escape_text-encode c quote backslash = by (ltb c 128) (ltb c 2048) (ltb c 65536)
  where
    one : flat_map escape_text (c ∷ []) ≡ c ∷ []
    one = ap (λ l. l ++ []) (escape_text-other c quote backslash)

    two : (x y : ℕ) → 128 ≤ x → 128 ≤ y → flat_map escape_text (x ∷ y ∷ []) ≡ x ∷ y ∷ []
    two x y p q = λ i. escape_text-high x p i ++ (escape_text-high y q i ++ [])

    by : (p q r : Bool) → let e = cond p (c ∷ []) (cond q ((192 + c / 64) ∷ next c ∷ []) (cond r ((224 + c / 4096) ∷ next (c / 64) ∷ next c ∷ []) ((240 + c / 262144) ∷ next (c / 4096) ∷ next (c / 64) ∷ next c ∷ []))) in flat_map escape_text e ≡ e
    by true q r = one
    by false true r = two _ _ (omega arith) (omega arith)
    by false false true = λ i. escape_text-high (224 + c / 4096) (omega arith) i ++ two (next (c / 64)) (next c) (omega arith) (omega arith) i
    by false false false =
        λ i. escape_text-high (240 + c / 262144) (omega arith) i ++ (escape_text-high (next (c / 4096)) (omega arith) i ++ two (next (c / 64)) (next c) (omega arith) (omega arith) i)

pub escape_text-quote : flat_map escape_text (encode 34) ≡ 92 ∷ 34 ∷ []
unfolding encode
escape_text-quote = refl

pub escape_text-backslash : flat_map escape_text (encode 92) ≡ 92 ∷ 92 ∷ []
unfolding encode
escape_text-backslash = refl

pub ruleset escapes = (flat_map-escape_text-encode, escape_text-quote, escape_text-backslash)

-- one character more
pub escape_text_more : (bs cs : List ℕ) (c : ℕ) → (bs ++ flat_map escape_text (encodes cs)) ++ flat_map escape_text (encode c) ≡ bs ++ flat_map escape_text (encodes (cs ++ c ∷ []))
escape_text_more bs cs c =
    append_assoc bs (flat_map escape_text (encodes cs)) (flat_map escape_text (encode c))
    ∙ ap (λ l. bs ++ l) (sym (flat_map-append escape_text (encodes cs) (encode c)))
    ∙ ap (λ l. bs ++ flat_map escape_text l) (ap (λ l. encodes cs ++ l) (sym (append-nil (encode c))) ∙ sym (encodes-append cs (c ∷ [])))

pub item_separator-suc : (i : ℕ) → item_separator (suc i) ≡ codes ", "
item_separator-suc i = search (rules, tests)

more_items_text-push : (cs : List Content) (c : Content) → more_items_text (contents_of (cs ++ c ∷ [])) ≡ more_items_text (contents_of cs) ++ (codes ", " ++ literal_text c)
more_items_text-push [] c = append-nil (codes ", " ++ literal_text c)
more_items_text-push (x ∷ cs) c = ap (λ l. (codes ", " ++ literal_text x) ++ l) (more_items_text-push cs c) ∙ sym (append_assoc (codes ", " ++ literal_text x) (more_items_text (contents_of cs)) (codes ", " ++ literal_text c))

-- one item more
items_text-push : (cs : List Content) (c : Content) → 0 < length cs → items_text (contents_of (cs ++ c ∷ [])) ≡ items_text (contents_of cs) ++ (codes ", " ++ literal_text c)
items_text-push [] c some = absurd (omega (arith, some))
items_text-push (x ∷ cs) c some = ap (λ l. literal_text x ++ l) (more_items_text-push cs c) ∙ sym (append_assoc (literal_text x) (more_items_text (contents_of cs)) (codes ", " ++ literal_text c))

-- one item more, with what stands before it
items_text-more : (cs : List Content) (i : ℕ) (c : Content) → length cs ≡ i → items_text (contents_of (cs ++ c ∷ [])) ≡ (items_text (contents_of cs) ++ item_separator i) ++ literal_text c
items_text-more [] zero c e = append-nil (literal_text c)
items_text-more [] (suc i) c e = absurd (omega (arith, e))
items_text-more (x ∷ cs) zero c e = absurd (omega (arith, e))
items_text-more (x ∷ cs) (suc i) c e =
    items_text-push (x ∷ cs) c (omega arith) ∙ sym (append_assoc (items_text (contents_of (x ∷ cs))) (codes ", ") (literal_text c)) ∙ ap (λ l. (items_text (contents_of (x ∷ cs)) ++ l) ++ literal_text c) (sym (item_separator-suc i))

pub items_text_more : (bs : List ℕ) (vs : List Value) (i : ℕ) (v : Value) → i < length vs → v ≡ get_or vs i v → ((bs ++ items_text (contents_of (map content (take i vs)))) ++ item_separator i) ++ literal_text (content v) ≡ bs ++ items_text (contents_of (map content (take (i + 1) vs)))
items_text_more bs vs i v p at =
    let whole = items_text-more (map content (take i vs)) i (content v) (length-map (take i vs) content ∙ length-take-le i vs (omega arith)) in
    ap (λ l. l ++ literal_text (content v)) (append_assoc bs (items_text (contents_of (map content (take i vs)))) (item_separator i))
    ∙ append_assoc bs (items_text (contents_of (map content (take i vs))) ++ item_separator i) (literal_text (content v))
    ∙ ap (λ l. bs ++ l) (sym whole)
    ∙ ap (λ cs. bs ++ items_text (contents_of cs)) (sym (map-content-more vs i v p at))
