-- Each token of a text that stands in an expression has a canonical text.
use Rattle.std.proofs.Common.{◌≡◌, ℕ, zero, suc, pos, ◌+◌, ◌^◌, ◌<◌, ◌&&◌, ◌||◌, not, Bool, true, false, cond, eqb, ltb, List, [], ◌∷◌, length, take, drop, get_or, Option, Some, None, is_some, refl, ap, sym, ◌∙◌, subst, arith}
use Rattle.std.specs.Char.{is_ascii_digit}
use Rattle.std.specs.List.{All, prefix_len, list_all, list_any}
use Rattle.std.specs.Option.{option_map}
use Rattle.std.specs.Str.Parse.{digits_value}
use Rattle.std.proofs.lemmas.List.{get_or-take}
use Rattle.std.proofs.lemmas.List.Sums.{prefix_len_passes, prefix_len_stops}
use Rattle.std.proofs.lemmas.List.Elements.{All-nil, All-cons}
use Rattle.ad_tree.specs.declared.operator.BinOp.TheVariants as bin
use Rattle.ad_tree.specs.declared.operator.Scope.{Scope}
use Rattle.ad_token.specs.declared.token.Bracket.TheVariants.{Round, Curly}
use Rattle.ad_token.specs.declared.token.Token.{Token}
use Rattle.ad_token.specs.declared.token.Token.TheVariants as token
use Rattle.ad_token.specs.declared.token.Placed.{Placed}
use Rattle.ad_token.specs.Names.{is_letter, is_name_byte, name_length, leading_name, is_too_long, word_of, scope_of_prefix, name_after_dot, bare_name, scope_prefix_token, perhaps_scope_prefix, perhaps_word, name_token, is_name}
use Rattle.ad_token.specs.Numbers.{digits_length, tail_length, number_token, point_token, numeral_token, is_positive_digit}
use Rattle.ad_token.specs.Strings.{is_escapable, closing_quote, unescape_text, string_to, string_token}
use Rattle.ad_token.specs.Marks.{mark_of_three, mark_of_two, mark_of_one, longest, mark_token}
use Rattle.ad_token.specs.Lexing.{is_blank, ends_the_tokens, token_at, lex_from, tokens_of}
use Rattle.ad_token.specs.Canonical.{is_line, is_proper, is_fit, token_of}
use Rattle.ad_token.proofs.Ends.{by_tests, name_some}
use Rattle.ad_token.proofs.Pieces.{both}

proper_fit : (t : Token) → is_proper t ≡ true → is_fit t ≡ true
proper_fit t p = ap (λ b. ends_the_tokens t || b) p ∙ or_true (ends_the_tokens t)
  where
    or_true : (b : Bool) → b || true ≡ true
    or_true true = refl
    or_true false = refl

refused_fit : (t : Token) → ends_the_tokens t ≡ true → is_fit t ≡ true
refused_fit t r = ap (λ b. b || is_proper t) r

-- names
run_passes : (p : ℕ → Bool) (bs : List ℕ) → list_all p (take (prefix_len p bs) bs) ≡ true
run_passes p [] = refl
run_passes p (b ∷ bs) = by (run_passes p bs) (p b) refl
  where
    by : list_all p (take (prefix_len p bs) bs) ≡ true → (t : Bool) → p b ≡ t → list_all p (take (cond t (1 + prefix_len p bs) 0) (b ∷ bs)) ≡ true
    by rest true e =
        let one : 1 + prefix_len p bs ≡ suc (prefix_len p bs) = omega arith in
        subst (λ n. list_all p (take n (b ∷ bs)) ≡ true) (sym one) (ap (λ c. c && list_all p (take (prefix_len p bs) bs)) e ∙ rest)
    by rest false e = refl

name_passes : (bs : List ℕ) → list_all is_name_byte (leading_name bs) ≡ true
name_passes bs = by (is_letter (get_or bs 0 0))
  where
    by : (l : Bool) → list_all is_name_byte (take (cond l (prefix_len is_name_byte bs) 0) bs) ≡ true
    by true = run_passes is_name_byte bs
    by false = refl

name_first : (bs : List ℕ) → is_letter (get_or bs 0 0) ≡ true → is_letter (get_or (leading_name bs) 0 0) ≡ true
name_first bs letter = ap is_letter (get_or-take (name_length bs) bs 0 0 (name_some bs letter)) ∙ letter

name_from : (x : List ℕ) → is_letter (get_or x 0 0) ≡ true → list_all is_name_byte x ≡ true → is_too_long x ≡ false → is_some (word_of x) ≡ false → is_name x ≡ true
unfolding is_name
name_from x letter bytes short no_word = λ i. letter i && (bytes i && (not (short i) && not (no_word i)))

begun : (bs : List ℕ) (b : ℕ) (name : List ℕ) → leading_name bs ≡ b ∷ name → is_letter (get_or bs 0 0) ≡ true
begun bs b name e = by (is_letter (get_or bs 0 0)) e
  where
    by : (l : Bool) → take (cond l (prefix_len is_name_byte bs) 0) bs ≡ b ∷ name → l ≡ true
    by true e = refl
    by false e = cc

after_dot : (after : List ℕ) (b : ℕ) (name : List ℕ) → name_after_dot after ≡ b ∷ name → is_too_long (b ∷ name) ≡ false → is_name (b ∷ name) ≡ true
unfolding name_after_dot
after_dot after b name e short = by (eqb (get_or after 0 0) 46) (is_some (word_of (leading_name (drop 1 after)))) refl e
  where
    by : (d w : Bool) → is_some (word_of (leading_name (drop 1 after))) ≡ w → cond d (cond w [] (leading_name (drop 1 after))) [] ≡ b ∷ name → is_name (b ∷ name) ≡ true
    by true true f e = cc
    by true false f e =
        let letter = ap (λ l. is_letter (get_or l 0 0)) (sym e) ∙ name_first (drop 1 after) (begun (drop 1 after) b name e) in
        name_from (b ∷ name) letter (ap (list_all is_name_byte) (sym e) ∙ name_passes (drop 1 after)) short (ap (λ l. is_some (word_of l)) (sym e) ∙ f)
    by false w f e = cc

scope_prefix_proper : (s : Scope) (name after x : List ℕ) → is_name name ≡ true → name_after_dot after ≡ x → is_proper (scope_prefix_token s name x).0 ≡ true
unfolding scope_prefix_token
scope_prefix_proper s name after [] h e = h
scope_prefix_proper s name after (b ∷ x) h e = by (is_too_long (b ∷ x)) refl
  where
    by : (l : Bool) → is_too_long (b ∷ x) ≡ l → is_proper (cond {A = Token × ℕ} l (bare_name name, length name + 1) (token.Name s (b ∷ x), length name + 1 + length (b ∷ x))).0 ≡ true
    by true f = h
    by false f = after_dot after b x e f

perhaps_scope_prefix_proper : (o : Option Scope) (name after : List ℕ) → is_name name ≡ true → is_proper (perhaps_scope_prefix o name after).0 ≡ true
perhaps_scope_prefix_proper None name after h = h
perhaps_scope_prefix_proper (Some s) name after h = scope_prefix_proper s name after (name_after_dot after) h refl

some_or : (t : Token) (c : Bool) (x : Token) (o : Option Token) → is_proper x ≡ true → (o ≡ Some t → is_proper t ≡ true) → cond c (Some x) o ≡ Some t → is_proper t ≡ true
some_or t true x o p g e = let same : x ≡ t = cc in ap is_proper (sym same) ∙ p
some_or t false x o p g e = g e

nothing : (t : Token) → None ≡ Some t → is_proper t ≡ true
nothing t e = cc

word_proper : (name : List ℕ) (t : Token) → word_of name ≡ Some t → is_proper t ≡ true
unfolding word_of
word_proper name t = some_or t _ token.True _ refl (some_or t _ token.False _ refl (some_or t _ token.Undefined _ refl (some_or t _ token.Error _ refl (some_or t _ (token.Op bin.Same) _ refl (some_or t _ (token.Op bin.NotSame) _ refl (nothing t))))))

name_token_fit : (bs : List ℕ) → is_letter (get_or bs 0 0) ≡ true → is_fit (name_token bs).0 ≡ true
unfolding name_token
name_token_fit bs letter = by (is_too_long (leading_name bs)) refl (word_of (leading_name bs)) refl
  where
    by : (l : Bool) → is_too_long (leading_name bs) ≡ l → (w : Option Token) → word_of (leading_name bs) ≡ w → is_fit (cond l (token.Bad, length (leading_name bs)) (perhaps_word w (leading_name bs) (drop (name_length bs) bs))).0 ≡ true
    by true e w f = refl
    by false e (Some t) f = proper_fit t (word_proper (leading_name bs) t f)
    by false e None f =
        proper_fit (perhaps_scope_prefix (scope_of_prefix (leading_name bs)) (leading_name bs) (drop (name_length bs) bs)).0
        (perhaps_scope_prefix_proper (scope_of_prefix (leading_name bs)) (leading_name bs) (drop (name_length bs) bs) (name_from (leading_name bs) (name_first bs letter) (name_passes bs) e (ap is_some f)))

-- numbers
numeral_fit : (digits tail : List ℕ) → is_fit (numeral_token digits tail) ≡ true
numeral_fit digits tail = by (list_any is_positive_digit tail) (ltb (digits_value 10 digits) (2 ^ 63)) refl
  where
    by : (r s : Bool) → ltb (digits_value 10 digits) (2 ^ 63) ≡ s → is_fit (cond r token.Real (cond s (token.Int (pos (digits_value 10 digits))) token.Range)) ≡ true
    by true s e = refl
    by false true e = e
    by false false e = refl

number_token_fit : (bs : List ℕ) → is_fit (number_token bs).0 ≡ true
unfolding number_token
number_token_fit bs = numeral_fit (take (digits_length bs) bs) (take (tail_length (drop (digits_length bs) bs)) (drop (digits_length bs) bs))

point_token_fit : (bs : List ℕ) → is_fit (point_token bs).0 ≡ true
unfolding point_token
point_token_fit bs = by (ltb 0 (digits_length (drop 1 bs)))
  where
    by : (t : Bool) → is_fit (cond t token.Real token.Bad) ≡ true
    by true = refl
    by false = refl

-- strings
abbrev no_line : ℕ → Bool
no_line b = not (eqb b 10)

closing_line : (escaped : Bool) (bs : List ℕ) (n : ℕ) → closing_quote escaped bs ≡ Some n → list_all no_line (take n bs) ≡ true
closing_line escaped [] n e = cc
closing_line escaped (b ∷ bs) n e = by (eqb b 10) ((eqb b 34) && not escaped) refl (closing_quote ((eqb b 92) && not escaped) bs) (λ m h. closing_line ((eqb b 92) && not escaped) bs m h) e
  where
    by : (l q : Bool) → eqb b 10 ≡ l → (o : Option ℕ) → ((m : ℕ) → o ≡ Some m → list_all no_line (take m bs) ≡ true) → cond l None (cond q (Some 0) (option_map (λ k. k + 1) o)) ≡ Some n
        → list_all no_line (take n (b ∷ bs)) ≡ true
    by true q f o rest e = cc
    by false true f o rest e = let zero_is : n ≡ 0 = cc in subst (λ k. list_all no_line (take k (b ∷ bs)) ≡ true) (sym zero_is) refl
    by false false f None rest e = cc
    by false false f (Some m) rest e =
        let more : m + 1 ≡ n = cc in
        let is : n ≡ suc m = omega arith in
        subst (λ k. list_all no_line (take k (b ∷ bs)) ≡ true) (sym is) (ap (λ c. not c && list_all no_line (take m bs)) f ∙ rest m refl)

unescape_text_line : (held : Bool) (bs : List ℕ) → list_all no_line bs ≡ true → list_all no_line (unescape_text held bs) ≡ true
unescape_text_line false [] h = refl
unescape_text_line true [] h = refl
unescape_text_line false (b ∷ bs) h =
    let p = both (no_line b) (list_all no_line bs) h in
    by p.0 (eqb b 92) (unescape_text_line true bs p.1) (unescape_text_line false bs p.1)
  where
    by : no_line b ≡ true → (w : Bool) → list_all no_line (unescape_text true bs) ≡ true → list_all no_line (unescape_text false bs) ≡ true → list_all no_line (cond w (unescape_text true bs) (b ∷ unescape_text false bs)) ≡ true
    by f true held plain = held
    by f false held plain = (λ i. f i && plain i)
unescape_text_line true (b ∷ bs) h =
    let p = both (no_line b) (list_all no_line bs) h in
    by p.0 (is_escapable b) (unescape_text_line false bs p.1)
  where
    by : no_line b ≡ true → (w : Bool) → list_all no_line (unescape_text false bs) ≡ true → list_all no_line (cond w (b ∷ unescape_text false bs) (92 ∷ b ∷ unescape_text false bs)) ≡ true
    by f true plain = (λ i. f i && plain i)
    by f false plain = (λ i. f i && plain i)

string_token_fit : (bs : List ℕ) → is_fit (string_token bs).0 ≡ true
unfolding string_token is_line
string_token_fit bs = by (closing_quote false (drop 1 bs)) refl
  where
    by : (o : Option ℕ) → closing_quote false (drop 1 bs) ≡ o → is_fit (string_to o (drop 1 bs)).0 ≡ true
    by None e = refl
    by (Some n) e = unescape_text_line false (take n (drop 1 bs)) (closing_line false (drop 1 bs) n e)

-- marks
mark_of_three_proper : (bs : List ℕ) (t : Token) → mark_of_three bs ≡ Some t → is_proper t ≡ true
unfolding mark_of_three
mark_of_three_proper bs t = some_or t _ (token.Op bin.Same) _ refl (some_or t _ (token.Op bin.NotSame) _ refl (nothing t))

mark_of_two_proper : (bs : List ℕ) (t : Token) → mark_of_two bs ≡ Some t → is_proper t ≡ true
unfolding mark_of_two
mark_of_two_proper bs t =
    some_or t _ (token.Op bin.Equal) _ refl
    (some_or t _ (token.Op bin.NotEqual) _ refl
    (some_or t _ (token.Op bin.LessEqual) _ refl
    (some_or t _ (token.Op bin.GreaterEqual) _ refl
    (some_or t _ (token.Op bin.And) _ refl
    (some_or t _ (token.Op bin.Or) _ refl
    (some_or t _ token.OrElse _ refl (nothing t)))))))

mark_of_one_fit : (b : ℕ) → is_fit (mark_of_one b) ≡ true
unfolding mark_of_one
mark_of_one_fit b =
    is 60 (token.Op bin.Less) _ refl
    (is 62 (token.Op bin.Greater) _ refl
    (is 43 (token.Op bin.Add) _ refl
    (is 45 (token.Op bin.Subtract) _ refl
    (is 42 (token.Op bin.Multiply) _ refl
    (is 47 (token.Op bin.Divide) _ refl
    (is 37 (token.Op bin.Modulo) _ refl
    (is 33 token.Not _ refl
    (is 63 token.Question _ refl
    (is 58 token.Colon _ refl
    (is 44 token.Comma _ refl
    (is 40 (token.Open Round) _ refl
    (is 41 (token.Close Round) _ refl
    (is 123 (token.Open Curly) _ refl
    (is 125 (token.Close Curly) _ refl refl))))))))))))))
  where
    by : (c : Bool) (x y : Token) → is_fit x ≡ true → is_fit y ≡ true → is_fit (cond c x y) ≡ true
    by true x y p q = p
    by false x y p q = q

    is : (k : ℕ) (x y : Token) → is_fit x ≡ true → is_fit y ≡ true → is_fit (cond (eqb b k) x y) ≡ true
    is k x y p q = by (eqb b k) x y p q

mark_token_fit : (bs : List ℕ) → is_fit (mark_token bs).0 ≡ true
unfolding mark_token
mark_token_fit bs = by (mark_of_three bs) (mark_of_two bs) refl refl
  where
    by : (p q : Option Token) → mark_of_three bs ≡ p → mark_of_two bs ≡ q → is_fit (longest p q (mark_of_one (get_or bs 0 0))).0 ≡ true
    by (Some t) q e f = proper_fit t (mark_of_three_proper bs t e)
    by None (Some t) e f = proper_fit t (mark_of_two_proper bs t f)
    by None None e f = mark_of_one_fit (get_or bs 0 0)

pub token_at_fit : (bs : List ℕ) → is_fit (token_at bs).0 ≡ true
unfolding token_at
token_at_fit bs = by (is_letter (get_or bs 0 0)) refl (is_ascii_digit (get_or bs 0 0)) (eqb (get_or bs 0 0) 34) (eqb (get_or bs 0 0) 46)
  where
    by : (l : Bool) → is_letter (get_or bs 0 0) ≡ l → (d q p : Bool) → is_fit (by_tests bs l d q p).0 ≡ true
    by true e d q p = name_token_fit bs e
    by false e true q p = number_token_fit bs
    by false e false true p = string_token_fit bs
    by false e false false true = point_token_fit bs
    by false e false false false = mark_token_fit bs

abbrev pub IsFit : Placed → Type 0
IsFit p = is_fit p.token ≡ true

fit_from : (n at : ℕ) (bs : List ℕ) → All IsFit (lex_from n at bs)
unfolding lex_from
fit_from zero at bs = All-nil IsFit
fit_from (suc n) at [] = All-nil IsFit
fit_from (suc n) at (b ∷ bs) = by (λ k cs. fit_from n k cs) (is_blank b) (ends_the_tokens (token_at (b ∷ bs)).0)
  where
    by : ((k : ℕ) (cs : List ℕ) → All IsFit (lex_from n k cs)) → (w r : Bool)
        → All IsFit (cond w (lex_from n (at + 1) bs) (record { at = at; token = (token_at (b ∷ bs)).0 } ∷ cond r [] (lex_from n (at + (token_at (b ∷ bs)).1) (drop (token_at (b ∷ bs)).1 (b ∷ bs)))))
    by rest true r = rest (at + 1) bs
    by rest false true = All-cons IsFit _ [] (token_at_fit (b ∷ bs)) (All-nil IsFit)
    by rest false false = All-cons IsFit _ _ (token_at_fit (b ∷ bs)) (rest (at + (token_at (b ∷ bs)).1) (drop (token_at (b ∷ bs)).1 (b ∷ bs)))

pub tokens_fit : (bs : List ℕ) → All (λ p. is_fit (token_of p) ≡ true) (tokens_of bs)
tokens_fit bs = fit_from (length bs) 0 bs

-- a name is the longest run of its bytes
pub name_within : (bs : List ℕ) (k : ℕ) → k < name_length bs → is_name_byte (get_or bs k 0) ≡ true
name_within bs k h = by (is_letter (get_or bs 0 0)) h
  where
    by : (l : Bool) → k < cond l (prefix_len is_name_byte bs) 0 → is_name_byte (get_or bs k 0) ≡ true
    by true h = prefix_len_passes is_name_byte bs k 0 h
    by false h = absurd (omega (arith, h))

pub name_stops : (bs : List ℕ) → 0 < name_length bs → name_length bs < length bs → is_name_byte (get_or bs (name_length bs) 0) ≡ false
name_stops bs = by (is_letter (get_or bs 0 0))
  where
    by : (l : Bool) → 0 < cond l (prefix_len is_name_byte bs) 0 → cond l (prefix_len is_name_byte bs) 0 < length bs → is_name_byte (get_or bs (cond l (prefix_len is_name_byte bs) 0) 0) ≡ false
    by true some h = prefix_len_stops is_name_byte bs 0 h
    by false some h = absurd (omega (arith, some))
