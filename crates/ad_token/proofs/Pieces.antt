-- The canonical texts of names, words, integers and strings are read as these, whatever byte that can't continue them follows.
use Rattle.std.proofs.Common.{◌≡◌, ℕ, suc, pos, ◌+◌, ◌^◌, ◌<◌, ◌&&◌, ◌||◌, not, Bool, true, false, cond, eqb, ltb, List, [], ◌∷◌, ◌++◌, length, take, drop, get_or, codes, Option, Some, None, is_some, refl, ap, ◌∙◌, arith, append_assoc}
use Rattle.std.specs.Char.{is_ascii_digit}
use Rattle.std.specs.Fmt.{decimal}
use Rattle.std.specs.List.{prefix_len, list_all, flat_map}
use Rattle.std.specs.Option.{option_map}
use Rattle.std.specs.Str.{all_ascii_digits}
use Rattle.std.specs.Str.Parse.{digits_value}
use Rattle.std.proofs.lemmas.Bool.{lt-ltb}
use Rattle.std.proofs.lemmas.Bool.Decides.{nat_tests}
use Rattle.std.proofs.lemmas.Fmt.{decimal_nonempty, digits_decimal, digits_value-decimal}
use Rattle.std.proofs.lemmas.List.{take_at, drop_at, length-append}
use Rattle.ad_value.specs.Literal.{escape_text, quoted_text}
use Rattle.ad_tree.specs.declared.operator.Scope.{Scope}
use Rattle.ad_tree.specs.declared.operator.Scope.TheVariants.{Bare, My, Target}
use Rattle.ad_token.specs.declared.token.Token.{Token}
use Rattle.ad_token.specs.declared.token.Token.TheVariants as token
use Rattle.ad_token.specs.Names.{is_letter, is_name_byte, name_length, leading_name, is_too_long, word_of, scope_of_prefix, unless_word, name_after_dot, bare_name, scope_prefix_token, perhaps_scope_prefix, perhaps_word, token_of_name, name_token, is_name}
use Rattle.ad_token.specs.Numbers.{digits_length, fraction_length, signed_length, exponent_with, exponent_length, tail_length, number_token, numeral_token, integer_token}
use Rattle.ad_token.specs.Strings.{closing_quote, unescape_text, string_to, string_token}
use Rattle.ad_token.specs.Lexing.{token_at}
use Rattle.ad_token.specs.Canonical.{is_line}
use Rattle.ad_token.proofs.Prefixes.{numeral_model}
use Rattle.ad_token.proofs.Ends.{by_tests}

pub both : (a b : Bool) → a && b ≡ true → (a ≡ true) × (b ≡ true)
both true b h = (refl, h)
both false b h = cc

pub neither : (a b : Bool) → not (a || b) ≡ true → (a ≡ false) × (b ≡ false)
neither true b h = cc
neither false true h = cc
neither false false h = (refl, refl)

pub not_true : (b : Bool) → not b ≡ true → b ≡ false
not_true true h = cc
not_true false h = refl

pub or_left : (a b : Bool) → a ≡ true → a || b ≡ true
or_left true b h = refl
or_left false b h = cc

-- a run of bytes that pass, up to one that doesn't
pub run_append : (p : ℕ → Bool) (xs ys : List ℕ) → list_all p xs ≡ true → p (get_or ys 0 0) ≡ false → prefix_len p (xs ++ ys) ≡ length xs
run_append p [] [] a s = refl
run_append p [] (y ∷ ys) a s = ap (λ c. cond c (1 + prefix_len p ys) 0) s
run_append p (x ∷ xs) ys a s =
    let h = both (p x) (list_all p xs) a in
    let n : 1 + prefix_len p (xs ++ ys) ≡ suc (length xs) = omega (arith, run_append p xs ys h.1 s) in
    ap (λ c. cond c (1 + prefix_len p (xs ++ ys)) 0) h.0 ∙ n

-- names
pub record NameParts (x : List ℕ) : Type 0 where
  pub letter : is_letter (get_or x 0 0) ≡ true
  pub bytes : list_all is_name_byte x ≡ true
  pub short : is_too_long x ≡ false
  pub no_word : is_some (word_of x) ≡ false

pub name_parts_from : (x : List ℕ) → is_name x ≡ true → NameParts x
unfolding is_name
name_parts_from x h =
    let a = both (is_letter (get_or x 0 0)) _ h in
    let b = both (list_all is_name_byte x) _ a.1 in
    let c = both (not (is_too_long x)) _ b.1 in
    record { letter = a.0; bytes = b.0; short = not_true _ c.0; no_word = not_true _ c.1 }

none_from : {A : Type 0} (o : Option A) → is_some o ≡ false → o ≡ None
none_from None h = refl
none_from (Some a) h = cc

first_append : (x bs : List ℕ) → is_letter (get_or x 0 0) ≡ true → is_letter (get_or (x ++ bs) 0 0) ≡ true
first_append [] bs h = cc
first_append (b ∷ x) bs h = h

-- a name's bytes at the start of a text, and what follows
pub record Leading (x bs : List ℕ) : Type 0 where
  pub letter : is_letter (get_or (x ++ bs) 0 0) ≡ true
  pub is : leading_name (x ++ bs) ≡ x
  pub after : drop (name_length (x ++ bs)) (x ++ bs) ≡ bs

pub leading_from : (x bs : List ℕ) → is_letter (get_or x 0 0) ≡ true → list_all is_name_byte x ≡ true → is_name_byte (get_or bs 0 0) ≡ false → Leading x bs
leading_from x bs letter bytes stop =
    let first = first_append x bs letter in
    let n : name_length (x ++ bs) ≡ length x = ap (λ c. cond c (prefix_len is_name_byte (x ++ bs)) 0) first ∙ run_append is_name_byte x bs bytes stop in
    record {
      letter = first;
      is = ap (λ k. take k (x ++ bs)) n ∙ take_at x bs _ refl;
      after = ap (λ k. drop k (x ++ bs)) n ∙ drop_at x bs _ refl;
    }

at_letter : (bs : List ℕ) → is_letter (get_or bs 0 0) ≡ true → token_at bs ≡ name_token bs
unfolding token_at
at_letter bs h = ap (λ l. by_tests bs l (is_ascii_digit (get_or bs 0 0)) (eqb (get_or bs 0 0) 34) (eqb (get_or bs 0 0) 46)) h

pub name_token_is : (x bs : List ℕ) → Leading x bs → token_at (x ++ bs) ≡ token_of_name x bs
unfolding name_token
name_token_is x bs f = at_letter (x ++ bs) f.letter ∙ (λ i. token_of_name (f.is i) (f.after i))

pub word_at : (x bs : List ℕ) (w : Token) → is_letter (get_or x 0 0) ≡ true → list_all is_name_byte x ≡ true → is_too_long x ≡ false → word_of x ≡ Some w → is_name_byte (get_or bs 0 0) ≡ false
    → token_at (x ++ bs) ≡ (w, length x)
word_at x bs w letter bytes short is stop =
    name_token_is x bs (leading_from x bs letter bytes stop)
    ∙ ap (λ c. cond c (token.Bad, length x) (perhaps_word (word_of x) x bs)) short
    ∙ ap (λ o. perhaps_word o x bs) is

pub no_dot : (bs : List ℕ) → eqb (get_or bs 0 0) 46 ≡ false → name_after_dot bs ≡ []
unfolding name_after_dot
no_dot bs h = ap (λ c. cond c (unless_word (leading_name (drop 1 bs))) []) h

pub no_name : (s : Scope) (x : List ℕ) → scope_prefix_token s x [] ≡ (bare_name x, length x)
unfolding scope_prefix_token
no_name s x = refl

token_of_name_is : (x bs : List ℕ) → NameParts x → token_of_name x bs ≡ perhaps_scope_prefix (scope_of_prefix x) x bs
token_of_name_is x bs n = ap (λ c. cond c (token.Bad, length x) (perhaps_word (word_of x) x bs)) n.short ∙ ap (λ o. perhaps_word o x bs) (none_from (word_of x) n.no_word)

pub bare_at : (x bs : List ℕ) → is_name x ≡ true → is_name_byte (get_or bs 0 0) ≡ false → (eqb (get_or bs 0 0) 46) && is_some (scope_of_prefix x) ≡ false → token_at (x ++ bs) ≡ (token.Name Bare x, length x)
bare_at x bs h stop dot =
    let n = name_parts_from x h in
    name_token_is x bs (leading_from x bs n.letter n.bytes stop) ∙ token_of_name_is x bs n ∙ by (scope_of_prefix x) (eqb (get_or bs 0 0) 46) refl dot
  where
    by : (o : Option Scope) (d : Bool) → eqb (get_or bs 0 0) 46 ≡ d → d && is_some o ≡ false → perhaps_scope_prefix o x bs ≡ (bare_name x, length x)
    by None d e dot = refl
    by (Some s) true e dot = cc
    by (Some s) false e dot = ap (λ y. scope_prefix_token s x y) (no_dot bs e) ∙ no_name s x

after_dot : (x bs : List ℕ) → NameParts x → is_name_byte (get_or bs 0 0) ≡ false → name_after_dot (46 ∷ (x ++ bs)) ≡ x
unfolding name_after_dot
after_dot x bs n stop = ap (λ y. unless_word y) (leading_from x bs n.letter n.bytes stop).is ∙ ap (λ c. cond c [] x) n.no_word

scope_prefix_is : (s : Scope) (p x : List ℕ) → NameParts x → scope_prefix_token s p x ≡ (token.Name s x, length p + 1 + length x)
unfolding scope_prefix_token
scope_prefix_is s p [] n = let l = n.letter in cc
scope_prefix_is s p (b ∷ x) n = ap (λ c. cond {A = Token × ℕ} c (bare_name p, length p + 1) (token.Name s (b ∷ x), length p + 1 + length (b ∷ x))) n.short

-- a prefix, its dot and a name
pub scope_prefix_at : (s : Scope) (p x bs : List ℕ) → is_letter (get_or p 0 0) ≡ true → list_all is_name_byte p ≡ true → is_too_long p ≡ false → word_of p ≡ None → scope_of_prefix p ≡ Some s
    → is_name x ≡ true → is_name_byte (get_or bs 0 0) ≡ false → token_at (p ++ 46 ∷ (x ++ bs)) ≡ (token.Name s x, length p + 1 + length x)
scope_prefix_at s p x bs letter bytes short no_word prefix h stop =
    let n = name_parts_from x h in
    name_token_is p (46 ∷ (x ++ bs)) (leading_from p (46 ∷ (x ++ bs)) letter bytes refl)
    ∙ ap (λ c. cond c (token.Bad, length p) (perhaps_word (word_of p) p (46 ∷ (x ++ bs)))) short
    ∙ ap (λ o. perhaps_word o p (46 ∷ (x ++ bs))) no_word
    ∙ ap (λ o. perhaps_scope_prefix o p (46 ∷ (x ++ bs))) prefix
    ∙ ap (λ y. scope_prefix_token s p y) (after_dot x bs n stop)
    ∙ scope_prefix_is s p x n

pub my_prefix : scope_of_prefix (codes "MY") ≡ Some My
unfolding scope_of_prefix
my_prefix = refl

pub target_prefix : scope_of_prefix (codes "TARGET") ≡ Some Target
unfolding scope_of_prefix
target_prefix = refl

pub my_no_word : word_of (codes "MY") ≡ None
unfolding word_of
my_no_word = refl

pub target_no_word : word_of (codes "TARGET") ≡ None
unfolding word_of
target_no_word = refl

pub true_word : word_of (codes "TRUE") ≡ Some token.True
unfolding word_of
true_word = refl

pub false_word : word_of (codes "FALSE") ≡ Some token.False
unfolding word_of
false_word = refl

pub undefined_word : word_of (codes "UNDEFINED") ≡ Some token.Undefined
unfolding word_of
undefined_word = refl

pub error_word : word_of (codes "ERROR") ≡ Some token.Error
unfolding word_of
error_word = refl

-- integers
pub digits_all : (ds : List ℕ) → all_ascii_digits ds ≡ true → list_all is_ascii_digit ds ≡ true
digits_all [] h = refl
digits_all (d ∷ ds) h = let p = both (is_ascii_digit d) (all_ascii_digits ds) h in ap (λ c. c && list_all is_ascii_digit ds) p.0 ∙ digits_all ds p.1

no_fraction : (bs : List ℕ) → eqb (get_or bs 0 0) 46 ≡ false → fraction_length bs ≡ 0
unfolding fraction_length
no_fraction [] h = refl
no_fraction (b ∷ bs) h = ap (λ c. cond c (1 + digits_length bs) 0) h

no_e : (b : ℕ) → is_name_byte b ≡ false → (eqb b 101) || (eqb b 69) ≡ false
no_e b h = grind (arith, nat_tests)

no_exponent : (bs : List ℕ) → is_name_byte (get_or bs 0 0) ≡ false → exponent_length bs ≡ 0
unfolding exponent_length
no_exponent [] h = refl
no_exponent (b ∷ bs) h = ap (λ c. cond c (exponent_with (signed_length bs)) 0) (no_e b h)

no_tail : (bs : List ℕ) → is_name_byte (get_or bs 0 0) ≡ false → eqb (get_or bs 0 0) 46 ≡ false → tail_length bs ≡ 0
no_tail bs h dot =
    let f = no_fraction bs dot in
    (λ i. f i + exponent_length (drop (f i) bs)) ∙ ap (λ n. 0 + n) (no_exponent bs h)

no_digit : (b : ℕ) → is_name_byte b ≡ false → is_ascii_digit b ≡ false
no_digit b h = grind (arith, nat_tests)

decimals_tail : (fs bs : List ℕ) → all_ascii_digits fs ≡ true → is_name_byte (get_or bs 0 0) ≡ false → tail_length (46 ∷ (fs ++ bs)) ≡ 1 + length fs
unfolding fraction_length
decimals_tail fs bs digits stop =
    let n : digits_length (fs ++ bs) ≡ length fs = run_append is_ascii_digit fs bs (digits_all fs digits) (no_digit (get_or bs 0 0) stop) in
    let one : 1 + length fs ≡ suc (length fs) = omega arith in
    let rest : drop (1 + length fs) (46 ∷ (fs ++ bs)) ≡ bs = ap (λ k. drop k (46 ∷ (fs ++ bs))) one ∙ drop_at fs bs _ refl in
    (λ i. (1 + n i) + exponent_length (drop (1 + n i) (46 ∷ (fs ++ bs))))
    ∙ ap (λ l. (1 + length fs) + exponent_length l) rest
    ∙ ap (λ k. (1 + length fs) + k) (no_exponent bs stop)
    ∙ omega arith

pub at_digit : (bs : List ℕ) → is_ascii_digit (get_or bs 0 0) ≡ true → token_at bs ≡ number_token bs
unfolding token_at
at_digit bs h =
    let l : is_letter (get_or bs 0 0) ≡ false = no_letter (get_or bs 0 0) h in
    (λ i. by_tests bs (l i) (h i) (eqb (get_or bs 0 0) 34) (eqb (get_or bs 0 0) 46))
  where
    no_letter : (b : ℕ) → is_ascii_digit b ≡ true → is_letter b ≡ false
    no_letter b h = grind (arith, nat_tests)

pub first_digit : (ds bs : List ℕ) → list_all is_ascii_digit ds ≡ true → 0 < length ds → is_ascii_digit (get_or (ds ++ bs) 0 0) ≡ true
first_digit [] bs h some = absurd (omega arith)
first_digit (d ∷ ds) bs h some = (both (is_ascii_digit d) (list_all is_ascii_digit ds) h).0

-- digits that no byte of a name and no dot follows
pub digits_at : (ds bs : List ℕ) → all_ascii_digits ds ≡ true → 0 < length ds → is_name_byte (get_or bs 0 0) ≡ false → eqb (get_or bs 0 0) 46 ≡ false → token_at (ds ++ bs) ≡ (integer_token ds, length ds)
unfolding number_token
digits_at ds bs digits some stop dot =
    let all = digits_all ds digits in
    let n : digits_length (ds ++ bs) ≡ length ds = run_append is_ascii_digit ds bs all (no_digit (get_or bs 0 0) stop) in
    let front : take (length ds) (ds ++ bs) ≡ ds = take_at ds bs _ refl in
    let back : drop (length ds) (ds ++ bs) ≡ bs = drop_at ds bs _ refl in
    let none : tail_length bs ≡ 0 = no_tail bs stop dot in
    at_digit (ds ++ bs) (first_digit ds bs all some)
    ∙ (λ i. (numeral_token (take (n i) (ds ++ bs)) (take (tail_length (drop (n i) (ds ++ bs))) (drop (n i) (ds ++ bs))), n i + tail_length (drop (n i) (ds ++ bs))))
    ∙ (λ i. (numeral_token (front i) (take (tail_length (back i)) (back i)), length ds + tail_length (back i)))
    ∙ (λ i. (numeral_token ds (take (none i) bs), length ds + none i))
    ∙ ap (λ m. (integer_token ds, m)) (omega arith)

-- digits, a dot and digits, that no byte of a name follows
pub decimals_at : (ds fs bs : List ℕ) → all_ascii_digits ds ≡ true → 0 < length ds → all_ascii_digits fs ≡ true → is_name_byte (get_or bs 0 0) ≡ false
    → token_at (ds ++ 46 ∷ (fs ++ bs)) ≡ (numeral_token ds fs, length ds + (1 + length fs))
unfolding number_token
decimals_at ds fs bs digits some fraction stop =
    let all = digits_all ds digits in
    let n : digits_length (ds ++ 46 ∷ (fs ++ bs)) ≡ length ds = run_append is_ascii_digit ds (46 ∷ (fs ++ bs)) all refl in
    let front : take (length ds) (ds ++ 46 ∷ (fs ++ bs)) ≡ ds = take_at ds (46 ∷ (fs ++ bs)) _ refl in
    let back : drop (length ds) (ds ++ 46 ∷ (fs ++ bs)) ≡ 46 ∷ (fs ++ bs) = drop_at ds (46 ∷ (fs ++ bs)) _ refl in
    let tail : tail_length (46 ∷ (fs ++ bs)) ≡ 1 + length fs = decimals_tail fs bs fraction stop in
    let one : 1 + length fs ≡ suc (length fs) = omega arith in
    let these : take (1 + length fs) (46 ∷ (fs ++ bs)) ≡ 46 ∷ fs = ap (λ k. take k (46 ∷ (fs ++ bs))) one ∙ ap (λ l. 46 ∷ l) (take_at fs bs _ refl) in
    at_digit (ds ++ 46 ∷ (fs ++ bs)) (first_digit ds (46 ∷ (fs ++ bs)) all some)
    ∙ (λ i. (numeral_token (take (n i) (ds ++ 46 ∷ (fs ++ bs))) (take (tail_length (drop (n i) (ds ++ 46 ∷ (fs ++ bs)))) (drop (n i) (ds ++ 46 ∷ (fs ++ bs)))), n i + tail_length (drop (n i) (ds ++ 46 ∷ (fs ++ bs)))))
    ∙ (λ i. (numeral_token (front i) (take (tail_length (back i)) (back i)), length ds + tail_length (back i)))
    ∙ (λ i. (numeral_token ds (take (tail i) (46 ∷ (fs ++ bs))), length ds + tail i))
    ∙ ap (λ l. (numeral_token ds l, length ds + (1 + length fs))) these

pub integer_at : (n : ℕ) (bs : List ℕ) → n < 2 ^ 63 → is_name_byte (get_or bs 0 0) ≡ false → eqb (get_or bs 0 0) 46 ≡ false → token_at (decimal n ++ bs) ≡ (token.Int (pos n), length (decimal n))
integer_at n bs small stop dot =
    let value : digits_value 10 (decimal n) ≡ n = digits_value-decimal numeral_model n (omega arith) in
    digits_at (decimal n) bs (digits_decimal numeral_model n (omega arith)) (decimal_nonempty n (omega arith)) stop dot
    ∙ ap (λ m. (cond (ltb m (2 ^ 63)) (token.Int (pos m)) token.Range, length (decimal n))) value
    ∙ ap (λ c. (cond c (token.Int (pos n)) token.Range, length (decimal n))) (lt-ltb n (2 ^ 63) small)

-- strings
pub closing_step : (escaped : Bool) (b : ℕ) (bs : List ℕ) → eqb b 10 ≡ false → (eqb b 34) && not escaped ≡ false → closing_quote escaped (b ∷ bs) ≡ option_map (λ n. n + 1) (closing_quote ((eqb b 92) && not escaped) bs)
closing_step escaped b bs line quote =
    ap (λ c. cond c None (cond ((eqb b 34) && not escaped) (Some 0) (option_map (λ n. n + 1) (closing_quote ((eqb b 92) && not escaped) bs)))) line
    ∙ ap (λ c. cond c (Some 0) (option_map (λ n. n + 1) (closing_quote ((eqb b 92) && not escaped) bs))) quote

pub and_false : (b : Bool) → b && false ≡ false
and_false true = refl
and_false false = refl

closing_escape_text : (s bs : List ℕ) → list_all (λ b. not (eqb b 10)) s ≡ true → closing_quote false (flat_map escape_text s ++ 34 ∷ bs) ≡ Some (length (flat_map escape_text s))
closing_escape_text [] bs h = refl
closing_escape_text (b ∷ s) bs h =
    let p = both (not (eqb b 10)) _ h in
    by (eqb b 34) (eqb b 92) refl refl (not_true (eqb b 10) p.0) (closing_escape_text s bs p.1)
  where
    more : (k : ℕ) → k + 1 ≡ suc k
    more k = omega arith

    held : eqb b 10 ≡ false → closing_quote false (flat_map escape_text s ++ 34 ∷ bs) ≡ Some (length (flat_map escape_text s)) → closing_quote false (92 ∷ b ∷ (flat_map escape_text s ++ 34 ∷ bs)) ≡ Some (suc (suc (length (flat_map escape_text s))))
    held line rest =
        ap (λ o. option_map (λ n. n + 1) o) (
        closing_step true b (flat_map escape_text s ++ 34 ∷ bs) line (and_false (eqb b 34))
        ∙ ap (λ k. option_map (λ n. n + 1) (closing_quote k (flat_map escape_text s ++ 34 ∷ bs))) (and_false (eqb b 92))
        ∙ ap (λ o. option_map (λ n. n + 1) o) rest)
        ∙ ap (λ k. Some k) (omega arith)

    by : (q w : Bool) → eqb b 34 ≡ q → eqb b 92 ≡ w → eqb b 10 ≡ false → closing_quote false (flat_map escape_text s ++ 34 ∷ bs) ≡ Some (length (flat_map escape_text s))
        → closing_quote false ((cond (q || w) (92 ∷ b ∷ []) (b ∷ []) ++ flat_map escape_text s) ++ 34 ∷ bs) ≡ Some (length (cond (q || w) (92 ∷ b ∷ []) (b ∷ []) ++ flat_map escape_text s))
    by true w e f line rest = held line rest
    by false true e f line rest = held line rest
    by false false e f line rest =
        closing_step false b (flat_map escape_text s ++ 34 ∷ bs) line (ap (λ c. c && true) e)
        ∙ ap (λ c. option_map (λ n. n + 1) (closing_quote (c && true) (flat_map escape_text s ++ 34 ∷ bs))) f
        ∙ ap (λ o. option_map (λ n. n + 1) o) rest
        ∙ ap (λ k. Some k) (more _)

pub unescape_text_escape_text : (s : List ℕ) → unescape_text false (flat_map escape_text s) ≡ s
unescape_text_escape_text [] = refl
unescape_text_escape_text (b ∷ s) = by (eqb b 34) (eqb b 92) refl refl (unescape_text_escape_text s)
  where
    held : (eqb b 34) || (eqb b 92) ≡ true → unescape_text false (flat_map escape_text s) ≡ s → unescape_text true (b ∷ flat_map escape_text s) ≡ b ∷ s
    held e rest = ap (λ c. cond c (b ∷ unescape_text false (flat_map escape_text s)) (92 ∷ b ∷ unescape_text false (flat_map escape_text s))) e ∙ ap (λ l. b ∷ l) rest

    by : (q w : Bool) → eqb b 34 ≡ q → eqb b 92 ≡ w → unescape_text false (flat_map escape_text s) ≡ s → unescape_text false (cond (q || w) (92 ∷ b ∷ []) (b ∷ []) ++ flat_map escape_text s) ≡ b ∷ s
    by true w e f rest = held (ap (λ c. c || (eqb b 92)) e) rest
    by false true e f rest = held ((λ i. e i || f i)) rest
    by false false e f rest = ap (λ c. cond c (unescape_text true (flat_map escape_text s)) (b ∷ unescape_text false (flat_map escape_text s))) f ∙ ap (λ l. b ∷ l) rest

pub at_quote : (bs : List ℕ) → token_at (34 ∷ bs) ≡ string_to (closing_quote false bs) bs
unfolding token_at string_token
at_quote bs = refl

pub string_at : (s bs : List ℕ) → is_line s ≡ true → token_at (quoted_text s ++ bs) ≡ (token.Str s, length (quoted_text s))
unfolding is_line
string_at s bs h =
    let whole : (flat_map escape_text s ++ 34 ∷ []) ++ bs ≡ flat_map escape_text s ++ 34 ∷ bs = append_assoc (flat_map escape_text s) (34 ∷ []) bs in
    let long : length (flat_map escape_text s) + 2 ≡ suc (length (flat_map escape_text s ++ 34 ∷ [])) = omega (arith, length-append (flat_map escape_text s) (34 ∷ [])) in
    ap (λ l. token_at (34 ∷ l)) whole
    ∙ at_quote (flat_map escape_text s ++ 34 ∷ bs)
    ∙ ap (λ o. string_to o (flat_map escape_text s ++ 34 ∷ bs)) (closing_escape_text s bs h)
    ∙ ap (λ l. (token.Str (unescape_text false l), length (flat_map escape_text s) + 2)) (take_at (flat_map escape_text s) (34 ∷ bs) _ refl)
    ∙ ap (λ l. (token.Str l, length (flat_map escape_text s) + 2)) (unescape_text_escape_text s)
    ∙ ap (λ n. (token.Str s, n)) long
