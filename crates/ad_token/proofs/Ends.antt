-- Each token that stands in an expression ends in an ASCII byte of the text, so the text may be cut after it.
use Rattle.std.proofs.Common.{◌≡◌, ◌⊎◌, inl, inr, ℕ, zero, suc, ◌+◌, ◌-◌, ◌<◌, ◌≤◌, ◌&&◌, ◌||◌, Bool, true, false, cond, eqb, ltb, List, [], ◌∷◌, length, drop, get_or, codes, nat_eq, Option, Some, None, is_some, refl, ap, sym, ◌∙◌, subst, arith}
use Rattle.std.specs.Char.{is_ascii_digit}
use Rattle.std.specs.List.{prefix_len}
use Rattle.std.specs.Str.{IsUtf8, IsCharBoundary}
use Rattle.std.proofs.lemmas.Bool.{eqb-true, ltb-true}
use Rattle.std.proofs.lemmas.List.{get_or-drop, length-drop, length-take-le}
use Rattle.std.proofs.lemmas.List.Sums.{prefix_len_passes, prefix_len-le-length}
use Rattle.std.proofs.lemmas.Str.{IsCharBoundary-after_ascii}
use Rattle.ad_tree.specs.declared.operator.Scope.{Scope}
use Rattle.ad_token.specs.declared.token.Token.{Token}
use Rattle.ad_token.specs.declared.token.Token.TheVariants as token
use Rattle.ad_token.specs.Names.{is_letter, is_name_byte, name_length, leading_name, is_too_long, word_of, scope_of_prefix, name_after_dot, bare_name, scope_prefix_token, perhaps_scope_prefix, perhaps_word, token_of_name, name_token}
use Rattle.ad_token.specs.Numbers.{digits_length, fraction_length, sign_length, signed_length, exponent_with, exponent_length, tail_length, number_token, point_token}
use Rattle.ad_token.specs.Strings.{closing_quote, string_to, string_token}
use Rattle.ad_token.specs.Marks.{begins_with, mark_of_three, mark_of_two, mark_of_one, longest, mark_token}
use Rattle.ad_token.specs.Lexing.{ends_the_tokens, token_at}
use Rattle.ad_token.proofs.Prefixes.{name_byte_ascii, digit_ascii}
use Rattle.ad_token.proofs.Escapes.{IsQuote, closing_at}

pub record Ends (bs : List ℕ) (n : ℕ) : Type 0 where
  pub some : 0 < n
  pub within : n ≤ length bs
  pub ascii : get_or bs (n - 1) 0 < 128

pub ends_boundary : (bs : List ℕ) (n : ℕ) → IsUtf8 bs → Ends bs n → IsCharBoundary bs n
ends_boundary bs n utf8 e =
    let one : n - 1 + 1 ≡ n = omega (arith, e.some) in
    subst (λ m. IsCharBoundary bs m) one (IsCharBoundary-after_ascii bs (n - 1) utf8 (omega (arith, e.some, e.within)) e.ascii)

-- one part after another, either of which may be empty
abbrev Perhaps : List ℕ → ℕ → Type 0
Perhaps bs n = (n ≡ 0) ⊎ Ends bs n

sure_sure : (bs : List ℕ) (a b : ℕ) → Ends bs a → Ends (drop a bs) b → Ends bs (a + b)
sure_sure bs a b p q =
    let len : length (drop a bs) ≡ length bs - a = length-drop a bs in
    let place : a + (b - 1) ≡ a + b - 1 = omega (arith, q.some) in
    let last : get_or (drop a bs) (b - 1) 0 ≡ get_or bs (a + b - 1) 0 = get_or-drop a bs (b - 1) 0 ∙ ap (λ i. get_or bs i 0) place in
    record {
      some = omega (arith, p.some);
      within = omega (arith, p.within, q.within);
      ascii = rw last at q.ascii;
    }

sure_perhaps : (bs : List ℕ) (a b : ℕ) → Ends bs a → Perhaps (drop a bs) b → Ends bs (a + b)
sure_perhaps bs a b p (inl e) = let same : a + b ≡ a = omega (arith, e) in rw same p
sure_perhaps bs a b p (inr q) = sure_sure bs a b p q

perhaps_sure : (bs : List ℕ) (a b : ℕ) → Perhaps bs a → Ends (drop a bs) b → Ends bs (a + b)
perhaps_sure bs a b (inl e) q =
    let same : a + b ≡ b = omega (arith, e) in
    rw same (subst (λ l. Ends l b) (ap (λ n. drop n bs) e) q)
perhaps_sure bs a b (inr p) q = sure_sure bs a b p q

perhaps_perhaps : (bs : List ℕ) (a b : ℕ) → Perhaps bs a → Perhaps (drop a bs) b → Perhaps bs (a + b)
perhaps_perhaps bs a b p (inr q) = inr (perhaps_sure bs a b p q)
perhaps_perhaps bs a b (inl d) (inl e) = inl (omega (arith, d, e))
perhaps_perhaps bs a b (inr p) (inl e) = inr (sure_perhaps bs a b p (inl e))

first_ends : (bs : List ℕ) (b : ℕ) → 0 < length bs → get_or bs 0 0 ≡ b → b < 128 → Ends bs 1
first_ends bs b some e h = record { some = omega arith; within = omega arith; ascii = omega (arith, e) }

run_ends : (p : ℕ → Bool) → ((b : ℕ) → p b ≡ true → b < 128) → (bs : List ℕ) → 0 < prefix_len p bs → Ends bs (prefix_len p bs)
run_ends p ascii bs some = record {
  some = some;
  within = prefix_len-le-length p bs;
  ascii = ascii _ (prefix_len_passes p bs (prefix_len p bs - 1) 0 (omega arith));
}

run_perhaps : (p : ℕ → Bool) → ((b : ℕ) → p b ≡ true → b < 128) → (bs : List ℕ) → Perhaps bs (prefix_len p bs)
run_perhaps p ascii bs = by (prefix_len p bs) refl
  where
    by : (n : ℕ) → prefix_len p bs ≡ n → Perhaps bs (prefix_len p bs)
    by zero e = inl e
    by (suc n) e = inr (run_ends p ascii bs (omega (arith, e)))

refused_not : {A : Type 0} {b : Bool} → b ≡ true → b ≡ false → A
refused_not t f = cc

-- names
pub name_some : (bs : List ℕ) → is_letter (get_or bs 0 0) ≡ true → 0 < name_length bs
name_some [] h = cc
name_some (b ∷ bs) h = by (is_letter b) h
  where
    by : (l : Bool) → l ≡ true → 0 < cond l (cond (l || is_ascii_digit b) (1 + prefix_len is_name_byte bs) 0) 0
    by true e = omega arith
    by false e = cc

name_perhaps : (bs : List ℕ) → Perhaps bs (name_length bs)
name_perhaps bs = by (is_letter (get_or bs 0 0))
  where
    by : (l : Bool) → Perhaps bs (cond l (prefix_len is_name_byte bs) 0)
    by true = run_perhaps is_name_byte name_byte_ascii bs
    by false = inl refl

name_ends : (bs : List ℕ) → 0 < name_length bs → Ends bs (name_length bs)
name_ends bs some = by (name_perhaps bs)
  where
    by : Perhaps bs (name_length bs) → Ends bs (name_length bs)
    by (inl e) = absurd (omega (arith, e, some))
    by (inr p) = p

length_name : (bs : List ℕ) → length (leading_name bs) ≡ name_length bs
length_name bs = length-take-le (name_length bs) bs (within (name_perhaps bs))
  where
    within : Perhaps bs (name_length bs) → name_length bs ≤ length bs
    within (inl e) = omega (arith, e)
    within (inr p) = p.within

leading_name_ends : (bs : List ℕ) (b : ℕ) (name : List ℕ) → leading_name bs ≡ b ∷ name → Ends bs (length (b ∷ name))
leading_name_ends bs b name e =
    let long : length (b ∷ name) ≡ name_length bs = ap length (sym e) ∙ length_name bs in
    rw long (name_ends bs (omega arith))

dot_ends : (after : List ℕ) (b : ℕ) (name : List ℕ) → name_after_dot after ≡ b ∷ name → Ends after 1 × Ends (drop 1 after) (length (b ∷ name))
unfolding name_after_dot
dot_ends [] b name e = cc
dot_ends (c ∷ after) b name e = by (eqb c 46) refl (is_some (word_of (leading_name after))) e
  where
    by : (d : Bool) → eqb c 46 ≡ d → (w : Bool) → cond d (cond w [] (leading_name after)) [] ≡ b ∷ name → Ends (c ∷ after) 1 × Ends after (length (b ∷ name))
    by true dot true e = cc
    by true dot false e = (first_ends (c ∷ after) 46 (omega arith) (eqb-true c 46 dot) (omega arith), leading_name_ends after b name e)
    by false dot w e = cc

module _ (bs name : List ℕ) (ends : Ends bs (length name)) where
  scope_prefix_ends : (s : Scope) (x : List ℕ) → name_after_dot (drop (length name) bs) ≡ x → ends_the_tokens (scope_prefix_token s name x).0 ≡ false → Ends bs (scope_prefix_token s name x).1
  unfolding scope_prefix_token
  scope_prefix_ends s [] e ok = ends
  scope_prefix_ends s (b ∷ x) e ok = by (is_too_long (b ∷ x)) (dot_ends (drop (length name) bs) b x e)
    where
      dot : Ends (drop (length name) bs) 1 → Ends bs (length name + 1)
      dot p = sure_sure bs (length name) 1 ends p

      by : (l : Bool) → Ends (drop (length name) bs) 1 × Ends (drop 1 (drop (length name) bs)) (length (b ∷ x))
          → Ends bs (cond {A = Token × ℕ} l (bare_name name, length name + 1) (token.Name s (b ∷ x), length name + 1 + length (b ∷ x))).1
      by true p = dot p.0
      by false p =
          let sum : length name + (1 + length (b ∷ x)) ≡ length name + 1 + length (b ∷ x) = omega arith in
          subst (λ n. Ends bs n) sum (sure_sure bs (length name) (1 + length (b ∷ x)) ends (sure_sure (drop (length name) bs) 1 (length (b ∷ x)) p.0 p.1))

  perhaps_scope_prefix_ends : (s : Option Scope) → ends_the_tokens (perhaps_scope_prefix s name (drop (length name) bs)).0 ≡ false → Ends bs (perhaps_scope_prefix s name (drop (length name) bs)).1
  perhaps_scope_prefix_ends None ok = ends
  perhaps_scope_prefix_ends (Some s) ok = scope_prefix_ends s (name_after_dot (drop (length name) bs)) refl ok

  perhaps_word_ends : (w : Option Token) → ends_the_tokens (perhaps_word w name (drop (length name) bs)).0 ≡ false → Ends bs (perhaps_word w name (drop (length name) bs)).1
  perhaps_word_ends (Some w) ok = ends
  perhaps_word_ends None ok = perhaps_scope_prefix_ends (scope_of_prefix name) ok

  token_of_name_ends : ends_the_tokens (token_of_name name (drop (length name) bs)).0 ≡ false → Ends bs (token_of_name name (drop (length name) bs)).1
  token_of_name_ends ok = by (is_too_long name) ok
    where
      by : (l : Bool) → ends_the_tokens (cond l (token.Bad, length name) (perhaps_word (word_of name) name (drop (length name) bs))).0 ≡ false
          → Ends bs (cond l (token.Bad, length name) (perhaps_word (word_of name) name (drop (length name) bs))).1
      by true ok = cc
      by false ok = perhaps_word_ends (word_of name) ok

name_token_ends : (bs : List ℕ) → is_letter (get_or bs 0 0) ≡ true → ends_the_tokens (name_token bs).0 ≡ false → Ends bs (name_token bs).1
unfolding name_token
name_token_ends bs letter ok =
    let long : length (leading_name bs) ≡ name_length bs = length_name bs in
    let ends : Ends bs (length (leading_name bs)) = rw long (name_ends bs (name_some bs letter)) in
    (subst (λ n. ends_the_tokens (token_of_name (leading_name bs) (drop n bs)).0 ≡ false → Ends bs (token_of_name (leading_name bs) (drop n bs)).1) long (token_of_name_ends bs (leading_name bs) ends)) ok

-- numbers
digits_perhaps : (bs : List ℕ) → Perhaps bs (digits_length bs)
digits_perhaps bs = run_perhaps is_ascii_digit digit_ascii bs

fraction_perhaps : (bs : List ℕ) → Perhaps bs (fraction_length bs)
unfolding fraction_length
fraction_perhaps [] = inl refl
fraction_perhaps (b ∷ bs) = by (eqb b 46) refl
  where
    by : (d : Bool) → eqb b 46 ≡ d → Perhaps (b ∷ bs) (cond d (1 + digits_length bs) 0)
    by true e = inr (sure_perhaps (b ∷ bs) 1 (digits_length bs) (first_ends (b ∷ bs) 46 (omega arith) (eqb-true b 46 e) (omega arith)) (digits_perhaps bs))
    by false e = inl refl

sign_perhaps : (bs : List ℕ) → Perhaps bs (sign_length bs)
unfolding sign_length
sign_perhaps [] = inl refl
sign_perhaps (b ∷ bs) = by (eqb b 43) (eqb b 45) refl refl
  where
    by : (p m : Bool) → eqb b 43 ≡ p → eqb b 45 ≡ m → Perhaps (b ∷ bs) (cond (p || m) 1 0)
    by true m e f = inr (first_ends (b ∷ bs) 43 (omega arith) (eqb-true b 43 e) (omega arith))
    by false true e f = inr (first_ends (b ∷ bs) 45 (omega arith) (eqb-true b 45 f) (omega arith))
    by false false e f = inl refl

signed_perhaps : (bs : List ℕ) → Perhaps bs (signed_length bs)
signed_perhaps bs = by (ltb 0 (digits_length (drop (sign_length bs) bs))) refl
  where
    by : (t : Bool) → ltb 0 (digits_length (drop (sign_length bs) bs)) ≡ t → Perhaps bs (cond t (sign_length bs + digits_length (drop (sign_length bs) bs)) 0)
    by true e = inr (perhaps_sure bs (sign_length bs) _ (sign_perhaps bs) (run_ends is_ascii_digit digit_ascii (drop (sign_length bs) bs) (ltb-true 0 _ e)))
    by false e = inl refl

exponent_perhaps : (bs : List ℕ) → Perhaps bs (exponent_length bs)
unfolding exponent_length
exponent_perhaps [] = inl refl
exponent_perhaps (b ∷ bs) = by (eqb b 101) (eqb b 69) refl refl
  where
    with_letter : Ends (b ∷ bs) 1 → (n : ℕ) → Perhaps bs n → (z : Bool) → Perhaps (b ∷ bs) (cond z 0 (1 + n))
    with_letter first n p true = inl refl
    with_letter first n p false = inr (sure_perhaps (b ∷ bs) 1 n first p)

    by : (e f : Bool) → eqb b 101 ≡ e → eqb b 69 ≡ f → Perhaps (b ∷ bs) (cond (e || f) (exponent_with (signed_length bs)) 0)
    by true f p q = with_letter (first_ends (b ∷ bs) 101 (omega arith) (eqb-true b 101 p) (omega arith)) (signed_length bs) (signed_perhaps bs) (eqb (signed_length bs) 0)
    by false true p q = with_letter (first_ends (b ∷ bs) 69 (omega arith) (eqb-true b 69 q) (omega arith)) (signed_length bs) (signed_perhaps bs) (eqb (signed_length bs) 0)
    by false false p q = inl refl

tail_perhaps : (bs : List ℕ) → Perhaps bs (tail_length bs)
tail_perhaps bs = perhaps_perhaps bs (fraction_length bs) (exponent_length (drop (fraction_length bs) bs)) (fraction_perhaps bs) (exponent_perhaps (drop (fraction_length bs) bs))

pub digits_some : (bs : List ℕ) → is_ascii_digit (get_or bs 0 0) ≡ true → 0 < digits_length bs
digits_some [] h = cc
digits_some (b ∷ bs) h = by (is_ascii_digit b) h
  where
    by : (d : Bool) → d ≡ true → 0 < cond d (1 + digits_length bs) 0
    by true e = omega arith
    by false e = cc

number_token_ends : (bs : List ℕ) → is_ascii_digit (get_or bs 0 0) ≡ true → Ends bs (number_token bs).1
unfolding number_token
number_token_ends bs digit =
    sure_perhaps bs (digits_length bs) (tail_length (drop (digits_length bs) bs)) (run_ends is_ascii_digit digit_ascii bs (digits_some bs digit)) (tail_perhaps (drop (digits_length bs) bs))

point_token_refused : (bs : List ℕ) → ends_the_tokens (point_token bs).0 ≡ true
unfolding point_token
point_token_refused bs = by (ltb 0 (digits_length (drop 1 bs)))
  where
    by : (t : Bool) → ends_the_tokens (cond t token.Real token.Bad) ≡ true
    by true = refl
    by false = refl

-- strings
string_token_ends : (bs : List ℕ) → get_or bs 0 0 ≡ 34 → ends_the_tokens (string_token bs).0 ≡ false → Ends bs (string_token bs).1
unfolding string_token
string_token_ends [] quote ok = cc
string_token_ends (b ∷ bs) quote ok = by (closing_quote false bs) refl ok
  where
    closed : (n : ℕ) → IsQuote bs n → Ends bs (n + 1)
    closed n q =
        let place : n ≡ n + 1 - 1 = omega arith in
        let last : get_or bs (n + 1 - 1) 0 ≡ 34 = subst (λ i. get_or bs i 0 ≡ 34) place q.1 in
        record { some = omega arith; within = omega (arith, q.0); ascii = omega (arith, last) }

    by : (o : Option ℕ) → closing_quote false bs ≡ o → ends_the_tokens (string_to o bs).0 ≡ false → Ends (b ∷ bs) (string_to o bs).1
    by None e ok = cc
    by (Some n) e ok =
        let sum : 1 + (n + 1) ≡ n + 2 = omega arith in
        subst (λ m. Ends (b ∷ bs) m) sum (sure_sure (b ∷ bs) 1 (n + 1) (first_ends (b ∷ bs) 34 (omega arith) quote (omega arith)) (closed n (closing_at false bs n e)))

-- marks
both : (a b : Bool) → a && b ≡ true → (a ≡ true) × (b ≡ true)
both true b h = (refl, h)
both false b h = cc

two_ends : (bs : List ℕ) (x y : ℕ) → y < 128 → begins_with bs (x ∷ y ∷ []) ≡ true → Ends bs 2
two_ends [] x y small h = cc
two_ends (a ∷ []) x y small h = let p = both (nat_eq x a) false h in cc
two_ends (a ∷ b ∷ bs) x y small h =
    let p = both (nat_eq x a) (nat_eq y b && true) h in
    let q = both (nat_eq y b) true p.1 in
    let e : y ≡ b = eqb-true y b q.0 in
    record { some = omega arith; within = omega arith; ascii = omega (arith, e) }

three_ends : (bs : List ℕ) (x y z : ℕ) → z < 128 → begins_with bs (x ∷ y ∷ z ∷ []) ≡ true → Ends bs 3
three_ends [] x y z small h = cc
three_ends (a ∷ []) x y z small h = let p = both (nat_eq x a) false h in cc
three_ends (a ∷ b ∷ []) x y z small h = let p = both (nat_eq x a) (nat_eq y b && false) h in let q = both (nat_eq y b) false p.1 in cc
three_ends (a ∷ b ∷ c ∷ bs) x y z small h =
    let p = both (nat_eq x a) (nat_eq y b && (nat_eq z c && true)) h in
    let q = both (nat_eq y b) (nat_eq z c && true) p.1 in
    let r = both (nat_eq z c) true q.1 in
    let e : z ≡ c = eqb-true z c r.0 in
    record { some = omega arith; within = omega arith; ascii = omega (arith, e) }

or_else : {P : Type 0} {t : Token} (c : Bool) (x : Token) (o : Option Token) → (c ≡ true → P) → (o ≡ Some t → P) → cond c (Some x) o ≡ Some t → P
or_else true x o f g e = f refl
or_else false x o f g e = g e

mark_of_three_ends : (bs : List ℕ) (t : Token) → mark_of_three bs ≡ Some t → Ends bs 3
unfolding mark_of_three
mark_of_three_ends bs t = or_else (begins_with bs (codes "=?=")) _ _ (three_ends bs 61 63 61 (omega arith)) (or_else (begins_with bs (codes "=!=")) _ _ (three_ends bs 61 33 61 (omega arith)) (λ e. cc))

mark_of_two_ends : (bs : List ℕ) (t : Token) → mark_of_two bs ≡ Some t → Ends bs 2
unfolding mark_of_two
mark_of_two_ends bs t =
    or_else (begins_with bs (codes "==")) _ _ (two_ends bs 61 61 (omega arith))
    (or_else (begins_with bs (codes "!=")) _ _ (two_ends bs 33 61 (omega arith))
    (or_else (begins_with bs (codes "<=")) _ _ (two_ends bs 60 61 (omega arith))
    (or_else (begins_with bs (codes ">=")) _ _ (two_ends bs 62 61 (omega arith))
    (or_else (begins_with bs (codes "&&")) _ _ (two_ends bs 38 38 (omega arith))
    (or_else (begins_with bs (codes "||")) _ _ (two_ends bs 124 124 (omega arith))
    (or_else (begins_with bs (codes "?:")) _ _ (two_ends bs 63 58 (omega arith)) (λ e. cc)))))))

else_token : {P : Type 0} (c : Bool) (x y : Token) → (c ≡ true → P) → (ends_the_tokens y ≡ false → P) → ends_the_tokens (cond c x y) ≡ false → P
else_token true x y f g e = f refl
else_token false x y f g e = g e

mark_of_one_ascii : (b : ℕ) → ends_the_tokens (mark_of_one b) ≡ false → b < 128
unfolding mark_of_one
mark_of_one_ascii b =
    is 60 _ _ (omega arith)
    (is 62 _ _ (omega arith)
    (is 43 _ _ (omega arith)
    (is 45 _ _ (omega arith)
    (is 42 _ _ (omega arith)
    (is 47 _ _ (omega arith)
    (is 37 _ _ (omega arith)
    (is 33 _ _ (omega arith)
    (is 63 _ _ (omega arith)
    (is 58 _ _ (omega arith)
    (is 44 _ _ (omega arith)
    (is 40 _ _ (omega arith)
    (is 41 _ _ (omega arith)
    (is 123 _ _ (omega arith)
    (is 125 _ _ (omega arith) (λ e. cc)))))))))))))))
  where
    is : (k : ℕ) (x y : Token) → k < 128 → (ends_the_tokens y ≡ false → b < 128) → ends_the_tokens (cond (eqb b k) x y) ≡ false → b < 128
    is k x y small g = else_token (eqb b k) x y (λ e. let same : b ≡ k = eqb-true b k e in omega arith) g

mark_token_ends : (bs : List ℕ) → 0 < length bs → ends_the_tokens (mark_token bs).0 ≡ false → Ends bs (mark_token bs).1
unfolding mark_token
mark_token_ends bs some ok = by (mark_of_three bs) (mark_of_two bs) refl refl ok
  where
    by : (p q : Option Token) → mark_of_three bs ≡ p → mark_of_two bs ≡ q → ends_the_tokens (longest p q (mark_of_one (get_or bs 0 0))).0 ≡ false → Ends bs (longest p q (mark_of_one (get_or bs 0 0))).1
    by (Some t) q e f ok = mark_of_three_ends bs t e
    by None (Some t) e f ok = mark_of_two_ends bs t f
    by None None e f ok = first_ends bs (get_or bs 0 0) some refl (mark_of_one_ascii (get_or bs 0 0) ok)

abbrev pub by_tests : List ℕ → Bool → Bool → Bool → Bool → Token × ℕ
by_tests bs l d q p = cond l (name_token bs) (cond d (number_token bs) (cond q (string_token bs) (cond p (point_token bs) (mark_token bs))))

pub token_at_ends : (bs : List ℕ) → 0 < length bs → ends_the_tokens (token_at bs).0 ≡ false → Ends bs (token_at bs).1
unfolding token_at
token_at_ends bs some ok = by (is_letter (get_or bs 0 0)) (is_ascii_digit (get_or bs 0 0)) (eqb (get_or bs 0 0) 34) (eqb (get_or bs 0 0) 46) refl refl refl ok
  where
    by : (l d q p : Bool) → is_letter (get_or bs 0 0) ≡ l → is_ascii_digit (get_or bs 0 0) ≡ d → eqb (get_or bs 0 0) 34 ≡ q → ends_the_tokens (by_tests bs l d q p).0 ≡ false → Ends bs (by_tests bs l d q p).1
    by true d q p e f g ok = name_token_ends bs e ok
    by false true q p e f g ok = number_token_ends bs f
    by false false true p e f g ok = string_token_ends bs (eqb-true (get_or bs 0 0) 34 g) ok
    by false false false true e f g ok = refused_not (point_token_refused bs) ok
    by false false false false e f g ok = mark_token_ends bs some ok
