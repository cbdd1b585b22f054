-- A prefix, without case, and what follows it.
use Rattle.std.proofs.Common.{◌≡◌, ℕ, suc, ◌+◌, ◌<◌, ◌≤◌, ◌&&◌, Bool, true, false, cond, ltb, List, [], ◌∷◌, ◌++◌, length, take, get_or, codes, Option, Some, None, is_some, refl, ap, sym, ◌∙◌, arith}
use Rattle.std.specs.Char.{to_ascii_lowercase, is_ascii_digit}
use Rattle.std.specs.List.{list_all, prefix_len}
use Rattle.std.specs.Str.{bytes_eq}
use Rattle.std.proofs.lemmas.Slice.Eq.{bytes_eq-Decides}
use Rattle.std.proofs.lemmas.Bool.{ltb-true, lt-ltb}
use Rattle.std.proofs.lemmas.Bool.Decides.{nat_tests}
use Rattle.std.proofs.lemmas.List.{length-map}
use Rattle.ad_value.specs.Names.{lowercase, same_name}
use Rattle.ad_tree.specs.declared.operator.BinOp.TheVariants as bin
use Rattle.ad_tree.specs.declared.operator.Scope.{Scope}
use Rattle.ad_tree.specs.declared.operator.Scope.TheVariants.{Bare}
use Rattle.ad_token.specs.declared.token.Token.{Token}
use Rattle.ad_token.specs.declared.token.Token.TheVariants as token
use Rattle.ad_token.specs.Names.{is_letter, is_name_byte, is_too_long, word_of, scope_of_prefix, unless_word, name_after_dot, bare_name, scope_prefix_token, perhaps_scope_prefix, perhaps_word, NoNameFollows, no_dot, no_letter, a_word, is_name}
use Rattle.ad_token.specs.Lexing.{token_at}
use Rattle.ad_token.proofs.Pieces.{both, or_left, leading_from, name_token_is, no_name, no_dot as no_dot_there, scope_prefix_at}

-- ---- what is a prefix without case

-- the same tests, of a name in lower case
abbrev word_in_lower : List ℕ → Option Token
word_in_lower l =
    cond (bytes_eq l (lowercase (codes "TRUE"))) (Some token.True)
    (cond (bytes_eq l (lowercase (codes "FALSE"))) (Some token.False)
    (cond (bytes_eq l (lowercase (codes "UNDEFINED"))) (Some token.Undefined)
    (cond (bytes_eq l (lowercase (codes "ERROR"))) (Some token.Error)
    (cond (bytes_eq l (lowercase (codes "IS"))) (Some (token.Op bin.Same))
    (cond (bytes_eq l (lowercase (codes "ISNT"))) (Some (token.Op bin.NotSame)) None)))))

word_by_lower : (x : List ℕ) → word_of x ≡ word_in_lower (lowercase x)
unfolding word_of
word_by_lower x = refl

letter_back : (b : ℕ) → is_letter (to_ascii_lowercase b) ≡ true → is_letter b ≡ true
letter_back b h = grind (arith, nat_tests)

-- a name's parts but for its length
record IsPrefix (p : List ℕ) : Type 0 where
  letter : is_letter (get_or p 0 0) ≡ true
  bytes : list_all is_name_byte p ≡ true
  short : is_too_long p ≡ false
  no_word : word_of p ≡ None

letters_back : (p : List ℕ) → list_all is_letter (lowercase p) ≡ true → list_all is_name_byte p ≡ true
letters_back [] h = refl
letters_back (b ∷ p) h =
    let q = both (is_letter (to_ascii_lowercase b)) (list_all is_letter (lowercase p)) h in
    (λ i. or_left (is_letter b) (is_ascii_digit b) (letter_back b q.0) i && letters_back p q.1 i)

first_back : (p : List ℕ) → 0 < length p → list_all is_letter (lowercase p) ≡ true → is_letter (get_or p 0 0) ≡ true
first_back [] some h = absurd (omega arith)
first_back (b ∷ p) some h = letter_back b (both (is_letter (to_ascii_lowercase b)) (list_all is_letter (lowercase p)) h).0

record AreLetters (x : List ℕ) : Type 0 where
  letter : is_letter (get_or x 0 0) ≡ true
  bytes : list_all is_name_byte x ≡ true

-- a text that is the same as one of letters
module _ (x l : List ℕ) (same : bytes_eq (lowercase x) l ≡ true) where
  lower : lowercase x ≡ l
  lower = (bytes_eq-Decides (lowercase x) l).0 same

  size : length x ≡ length l
  size = sym (length-map x to_ascii_lowercase) ∙ ap length lower

  letters : list_all is_letter l ≡ true → 0 < length l → AreLetters x
  letters all some =
      let here : list_all is_letter (lowercase x) ≡ true = ap (list_all is_letter) lower ∙ all in
      record { letter = first_back x (omega (arith, size)) here; bytes = letters_back x here }

  prefix : list_all is_letter l ≡ true → 0 < length l → length l ≤ 128 → word_in_lower l ≡ None → IsPrefix x
  prefix all some small none =
      let a = letters all some in
      record { letter = a.letter; bytes = a.bytes; short = not_long (is_too_long x) refl; no_word = word_by_lower x ∙ ap word_in_lower lower ∙ none }
    where
      not_long : (b : Bool) → ltb 128 (length x) ≡ b → b ≡ false
      not_long true h = absurd (omega (arith, ltb-true 128 (length x) h, size))
      not_long false h = refl

found : {A : Type 0} {P : Type 0} {t : A} (c : Bool) (x : A) (o : Option A) → (c ≡ true → P) → (o ≡ Some t → P) → cond c (Some x) o ≡ Some t → P
found true x o f g e = f refl
found false x o f g e = g e

prefix_from : (p : List ℕ) (s : Scope) → scope_of_prefix p ≡ Some s → IsPrefix p
unfolding scope_of_prefix
prefix_from p s =
    found (same_name p (codes "MY")) _ _ (λ h. prefix p (lowercase (codes "MY")) h refl (omega arith) (omega arith) refl)
    (found (same_name p (codes "TARGET")) _ _ (λ h. prefix p (lowercase (codes "TARGET")) h refl (omega arith) (omega arith) refl) (λ e. cc))

word_letters : (x : List ℕ) (w : Token) → word_of x ≡ Some w → AreLetters x
unfolding word_of
word_letters x w =
    found (same_name x (codes "TRUE")) _ _ (λ h. letters x (lowercase (codes "TRUE")) h refl (omega arith))
    (found (same_name x (codes "FALSE")) _ _ (λ h. letters x (lowercase (codes "FALSE")) h refl (omega arith))
    (found (same_name x (codes "UNDEFINED")) _ _ (λ h. letters x (lowercase (codes "UNDEFINED")) h refl (omega arith))
    (found (same_name x (codes "ERROR")) _ _ (λ h. letters x (lowercase (codes "ERROR")) h refl (omega arith))
    (found (same_name x (codes "IS")) _ _ (λ h. letters x (lowercase (codes "IS")) h refl (omega arith))
    (found (same_name x (codes "ISNT")) _ _ (λ h. letters x (lowercase (codes "ISNT")) h refl (omega arith)) (λ e. cc))))))

-- a word is short
word_short : (x : List ℕ) (w : Token) → word_of x ≡ Some w → length x ≤ 128
unfolding word_of
word_short x w =
    found (same_name x (codes "TRUE")) _ _ (λ h. omega (arith, size x (lowercase (codes "TRUE")) h))
    (found (same_name x (codes "FALSE")) _ _ (λ h. omega (arith, size x (lowercase (codes "FALSE")) h))
    (found (same_name x (codes "UNDEFINED")) _ _ (λ h. omega (arith, size x (lowercase (codes "UNDEFINED")) h))
    (found (same_name x (codes "ERROR")) _ _ (λ h. omega (arith, size x (lowercase (codes "ERROR")) h))
    (found (same_name x (codes "IS")) _ _ (λ h. omega (arith, size x (lowercase (codes "IS")) h))
    (found (same_name x (codes "ISNT")) _ _ (λ h. omega (arith, size x (lowercase (codes "ISNT")) h)) (λ e. cc))))))

no_word_so_long : (x : List ℕ) → 128 < length x → is_some (word_of x) ≡ false
no_word_so_long x long = by (word_of x) refl
  where
    by : (o : Option Token) → word_of x ≡ o → is_some o ≡ false
    by None e = refl
    by (Some w) e = absurd (omega (arith, word_short x w e))

-- ---- what follows the prefix

-- a prefix, and what no byte of a name begins
prefix_is : (s : Scope) (p bs : List ℕ) → scope_of_prefix p ≡ Some s → is_name_byte (get_or bs 0 0) ≡ false → token_at (p ++ bs) ≡ scope_prefix_token s p (name_after_dot bs)
prefix_is s p bs is stop =
    let f = prefix_from p s is in
    name_token_is p bs (leading_from p bs f.letter f.bytes stop)
    ∙ ap (λ c. cond c (token.Bad, length p) (perhaps_word (word_of p) p bs)) f.short
    ∙ ap (λ o. perhaps_word o p bs) f.no_word
    ∙ ap (λ o. perhaps_scope_prefix o p bs) is

pub named_at : (s : Scope) (p x bs : List ℕ) → scope_of_prefix p ≡ Some s → is_name x ≡ true → is_name_byte (get_or bs 0 0) ≡ false → token_at (p ++ 46 ∷ (x ++ bs)) ≡ (token.Name s x, length p + 1 + length x)
named_at s p x bs is name stop =
    let f = prefix_from p s is in
    scope_prefix_at s p x bs f.letter f.bytes f.short f.no_word is name stop

no_letters : (bs : List ℕ) → is_letter (get_or bs 0 0) ≡ false → name_after_dot (46 ∷ bs) ≡ []
unfolding name_after_dot word_of
no_letters bs h = ap (λ c. unless_word (take (cond c (prefix_len is_name_byte bs) 0) bs)) h

a_word_there : (x bs : List ℕ) (w : Token) → word_of x ≡ Some w → is_name_byte (get_or bs 0 0) ≡ false → name_after_dot (46 ∷ (x ++ bs)) ≡ []
unfolding name_after_dot
a_word_there x bs w is stop =
    let a = word_letters x w is in
    ap unless_word (leading_from x bs a.letter a.bytes stop).is ∙ ap (λ o. cond (is_some o) [] x) is

no_name_there : (bs : List ℕ) → NoNameFollows bs → name_after_dot bs ≡ []
no_name_there bs (no_dot h) = no_dot_there bs h
no_name_there _ (no_letter {bs = bs} h) = no_letters bs h
no_name_there _ (a_word x bs {w = w} is stop) = a_word_there x bs w is stop

pub alone_at : (s : Scope) (p bs : List ℕ) → scope_of_prefix p ≡ Some s → is_name_byte (get_or bs 0 0) ≡ false → NoNameFollows bs → token_at (p ++ bs) ≡ (token.Name Bare p, length p)
alone_at s p bs is stop none = prefix_is s p bs is stop ∙ ap (λ y. scope_prefix_token s p y) (no_name_there bs none) ∙ no_name s p

long_name : (x bs : List ℕ) → is_letter (get_or x 0 0) ≡ true → list_all is_name_byte x ≡ true → 128 < length x → is_name_byte (get_or bs 0 0) ≡ false → name_after_dot (46 ∷ (x ++ bs)) ≡ x
unfolding name_after_dot
long_name x bs letter bytes long stop = ap unless_word (leading_from x bs letter bytes stop).is ∙ ap (λ c. cond c [] x) (no_word_so_long x long)

too_long : (s : Scope) (p x : List ℕ) → 128 < length x → scope_prefix_token s p x ≡ (token.Name Bare p, length p + 1)
unfolding scope_prefix_token
too_long s p [] long = absurd (omega arith)
too_long s p (b ∷ x) long = ap (λ c. cond {A = Token × ℕ} c (bare_name p, length p + 1) (token.Name s (b ∷ x), length p + 1 + length (b ∷ x))) (lt-ltb 128 (suc (length x)) long)

pub too_long_at : (s : Scope) (p x bs : List ℕ) → scope_of_prefix p ≡ Some s → is_letter (get_or x 0 0) ≡ true → list_all is_name_byte x ≡ true → 128 < length x → is_name_byte (get_or bs 0 0) ≡ false
    → token_at (p ++ 46 ∷ (x ++ bs)) ≡ (token.Name Bare p, length p + 1)
too_long_at s p x bs is letter bytes long stop = prefix_is s p (46 ∷ (x ++ bs)) is refl ∙ ap (λ y. scope_prefix_token s p y) (long_name x bs letter bytes long stop) ∙ too_long s p x long
