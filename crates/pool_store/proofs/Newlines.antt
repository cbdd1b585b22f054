-- Where lines end.
use Rattle.std.proofs.Common.{◌≡◌, ℕ, suc, ◌+◌, ◌<◌, ◌≤◌, ◌^◌, ◌==◌, ◌&&◌, not, zero, take, Bool, true, false, List, [], ◌∷◌, ◌++◌, length, length-drop, get_or, drop, ◌-◌, decimal, refl, sym, ◌∙◌, ap, subst, arith}
use Rattle.std.specs.List.{list_all}
use Rattle.std.specs.Int.{IsInRange}
use Rattle.std.proofs.lemmas.Bool.Decides.{nat_tests}
use Rattle.std.proofs.lemmas.Bool.{eqb-true}
use Rattle.std.proofs.lemmas.Fmt.{digits_decimal}
use Rattle.std.proofs.lemmas.List.Elements.{All-from_get_or}
use Rattle.std.proofs.lemmas.List.Sums.{list_all-from_AllPass}
use Rattle.std.proofs.lemmas.Str.Parse.{numerals_by_value, tells_by_index}
use Rattle.pool_store.specs.Boots.{HasNoNewline}

abbrev pub is_no_newline : ℕ → Bool
is_no_newline b = not (b == 10)

pub first_and_rest : (a b : Bool) → (a && b) ≡ true → (a ≡ true) × (b ≡ true)
first_and_rest true true h = (refl, refl)
first_and_rest true false h = absurd cc
first_and_rest false b h = absurd cc

newline_ends : is_no_newline 10 ≡ true → ⊥
newline_ends h = cc

-- a line ends at the first newline
pub one_cut : (xs ys vs ws : List ℕ) → HasNoNewline xs → HasNoNewline ys → xs ++ 10 ∷ vs ≡ ys ++ 10 ∷ ws → (xs ≡ ys) × (vs ≡ ws)
one_cut [] [] vs ws p q same = (refl, cc)
one_cut [] (y ∷ ys) vs ws p q same =
    let here : y ≡ 10 = cc in
    absurd (newline_ends (subst (λ b. is_no_newline b ≡ true) here (first_and_rest _ _ q).0))
one_cut (x ∷ xs) [] vs ws p q same =
    let here : x ≡ 10 = cc in
    absurd (newline_ends (subst (λ b. is_no_newline b ≡ true) here (first_and_rest _ _ p).0))
one_cut (x ∷ xs) (y ∷ ys) vs ws p q same =
    let first : x ≡ y = cc in
    let rest : xs ++ 10 ∷ vs ≡ ys ++ 10 ∷ ws = cc in
    let both : (xs ≡ ys) × (vs ≡ ws) = one_cut xs ys vs ws (first_and_rest (is_no_newline x) (list_all is_no_newline xs) p).1 (first_and_rest (is_no_newline y) (list_all is_no_newline ys) q).1 rest in
    (cc (both.0), both.1)

-- no line is within bytes without a newline
pub no_line_within : (bytes line after : List ℕ) → HasNoNewline bytes → bytes ≡ line ++ 10 ∷ after → ⊥
no_line_within [] [] after p same = cc
no_line_within [] (x ∷ line) after p same = cc
no_line_within (b ∷ bytes) [] after p same =
    let here : b ≡ 10 = cc in
    newline_ends (subst (λ c. is_no_newline c ≡ true) here (first_and_rest _ _ p).0)
no_line_within (b ∷ bytes) (x ∷ line) after p same =
    let rest : bytes ≡ line ++ 10 ∷ after = cc in
    no_line_within bytes line after (first_and_rest _ _ p).1 rest

digit_passes : (b : ℕ) → IsInRange 48 57 b → is_no_newline b ≡ true
digit_passes b h = grind (arith, nat_tests)

-- a number stands on one line
pub decimal_line : (n : ℕ) → n < 2 ^ 64 → HasNoNewline (decimal n)
decimal_line n small =
    list_all-from_AllPass is_no_newline (decimal n)
    (All-from_get_or (λ b. is_no_newline b ≡ true) (decimal n) 0
    (λ i inside. digit_passes _ (digits_decimal (numerals_by_value _ tells_by_index) n small i inside)))

-- a beginning of bytes without a newline
pub take_line : (k : ℕ) (bytes more : List ℕ) → k ≤ length bytes → HasNoNewline bytes → HasNoNewline (take k (bytes ++ more))
take_line zero bytes more le p = refl
take_line (suc k) [] more le p = absurd (omega arith)
take_line (suc k) (b ∷ bytes) more le p =
    let both = first_and_rest (is_no_newline b) (list_all is_no_newline bytes) p in
    let rest = take_line k bytes more (omega arith) both.1 in
    rw (both.0, rest) refl

passes_else : (b : ℕ) → ((b == 10) ≡ true → ⊥) → is_no_newline b ≡ true
passes_else b h = by (b == 10) h
  where
    by : (t : Bool) → (t ≡ true → ⊥) → not t ≡ true
    by true h = absurd (h refl)
    by false h = refl

abbrev Nowhere : List ℕ → ℕ → Type 0
Nowhere bytes n = (k : ℕ) → 0 ≤ k → k < n → (get_or bytes k 0 == 10) ≡ true → ⊥

-- bytes in which no newline is found
pub line_nowhere : (bytes : List ℕ) → Nowhere bytes (length bytes) → HasNoNewline bytes
line_nowhere bytes none =
    list_all-from_AllPass is_no_newline bytes
    (All-from_get_or (λ b. is_no_newline b ≡ true) bytes 0
    (λ i inside. passes_else _ (none i (omega arith) inside)))

take_all : (n : ℕ) (xs : List ℕ) → length xs ≤ n → take n xs ≡ xs
take_all zero [] le = refl
take_all (suc n) [] le = refl
take_all zero (x ∷ xs) le = absurd (omega arith)
take_all (suc n) (x ∷ xs) le = ap (λ (t : List ℕ). x ∷ t) (take_all n xs (omega arith))

cut_here : (bytes : List ℕ) (e : ℕ) → e < length bytes → (get_or bytes e 0 == 10) ≡ true → bytes ≡ take e bytes ++ 10 ∷ drop (suc e) bytes
cut_here [] e inside here = absurd (omega arith)
cut_here (b ∷ bytes) zero inside here = let same : b ≡ 10 = eqb-true b 10 here in cc (same)
cut_here (b ∷ bytes) (suc e) inside here =
    let rest = cut_here bytes e (omega arith) here in
    ap (λ (t : List ℕ). b ∷ t) rest

line_before_nowhere : (bytes : List ℕ) (e : ℕ) → e < length bytes → Nowhere bytes e → HasNoNewline (take e bytes)
line_before_nowhere [] e inside none = absurd (omega arith)
line_before_nowhere (b ∷ bytes) zero inside none = refl
line_before_nowhere (b ∷ bytes) (suc e) inside none =
    let first : is_no_newline b ≡ true = passes_else b (none 0 (omega arith) (omega arith)) in
    let rest : HasNoNewline (take e bytes) = line_before_nowhere bytes e (omega arith) (λ k low high. none (suc k) (omega arith) (omega arith)) in
    rw (first, rest) refl

-- bytes cut at the first newline
pub cut_at_newline : (bytes : List ℕ) (e : ℕ) → e < length bytes → Nowhere bytes e → (get_or bytes e 0 == 10) ≡ true
    → HasNoNewline (take e bytes) × (bytes ≡ take e bytes ++ 10 ∷ take (length bytes - (e + 1)) (drop (e + 1) bytes))
cut_at_newline bytes e inside none here =
    let all : take (length bytes - (e + 1)) (drop (e + 1) bytes) ≡ drop (e + 1) bytes = take_all _ (drop (e + 1) bytes) (omega (arith, length-drop (e + 1) bytes)) in
    let next : suc e ≡ e + 1 = omega arith in
    (line_before_nowhere bytes e inside none, cut_here bytes e inside here ∙ ap (λ (n : ℕ). take e bytes ++ 10 ∷ drop n bytes) next ∙ ap (λ (t : List ℕ). take e bytes ++ 10 ∷ t) (sym all))
