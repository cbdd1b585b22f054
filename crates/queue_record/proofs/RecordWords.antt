-- The words of a line, as a relation and as a function.
use Rattle.std.proofs.Common.{◌≡◌, ℕ, zero, suc, ◌+◌, ◌&&◌, not, Bool, true, false, cond, List, [], ◌∷◌, ◌++◌, take, drop, length, Option, Some, None, refl, ap, sym, ◌∙◌, subst, arith}
use Rattle.std.specs.List.{list_all}
use Rattle.std.specs.Option.{option_and_then, option_map}
use Rattle.ad_token.specs.Lexing.{is_blank}
use Rattle.queue_tx.specs.declared.key.Key.{Key}
use Rattle.queue_record.specs.Keys.{key_at, IsKeyWord}
use Rattle.queue_record.specs.Words.{word_length, first_word, past_word, are_blanks, next_word, with_word, at_end}
use Rattle.queue_record.specs.Entries.{with_key}
use Rattle.queue_record.specs.Records.{AreBlanks, may_end_before, IsWordBefore, IsNextWord}
use Rattle.queue_record.proofs.KeyWords.{key_word_is, key_at_is}

pub first_and_rest : (a b : Bool) → (a && b) ≡ true → (a ≡ true) × (b ≡ true)
first_and_rest true true h = (refl, refl)
first_and_rest true false h = absurd cc
first_and_rest false b h = absurd cc

not_false : (b : Bool) → not b ≡ true → b ≡ false
not_false true h = absurd cc
not_false false h = refl

take_front : (xs ys : List ℕ) → take (length xs) (xs ++ ys) ≡ xs
take_front [] ys = refl
take_front (x ∷ xs) ys = ap (λ (t : List ℕ). x ∷ t) (take_front xs ys)

drop_front : (xs ys : List ℕ) → drop (length xs) (xs ++ ys) ≡ ys
drop_front [] ys = refl
drop_front (x ∷ xs) ys = drop_front xs ys

abbrev is_solid : ℕ → Bool
is_solid b = not (is_blank b)

length_at : (word after : List ℕ) → list_all is_solid word ≡ true → may_end_before after ≡ true → word_length (word ++ after) ≡ length word
length_at [] [] solid ended = refl
length_at [] (b ∷ bs) solid ended = ap (λ (t : Bool). cond (not t) (1 + word_length bs) 0) ended
length_at (w ∷ word) after solid ended =
    let both = first_and_rest (is_solid w) (list_all is_solid word) solid in
    let more : word_length (word ++ after) ≡ length word = length_at word after both.1 ended in
    ap (λ (t : Bool). cond t (1 + word_length (word ++ after)) 0) both.0 ∙ (let one : 1 + word_length (word ++ after) ≡ suc (length word) = omega (arith, more) in one)

-- a word before others is the first
pub word_cut : (text word after : List ℕ) → IsWordBefore text word after → (first_word text ≡ word) × (past_word text ≡ after)
word_cut text word after is =
    let size : word_length text ≡ length word = ap word_length is.parts ∙ length_at word after is.solid is.ended in (
      ap (λ (n : ℕ). take n text) size ∙ ap (take (length word)) is.parts ∙ take_front word after,
      ap (λ (n : ℕ). drop n text) size ∙ ap (drop (length word)) is.parts ∙ drop_front word after,
    )

record FirstWord (text : List ℕ) (n : ℕ) : Type 0 where
  parts : text ≡ take n text ++ drop n text
  solid : list_all is_solid (take n text) ≡ true
  ended : may_end_before (drop n text) ≡ true

first_word_at : (text : List ℕ) (n : ℕ) → n ≡ word_length text → FirstWord text n
first_word_at [] zero e = record { parts = refl; solid = refl; ended = refl }
first_word_at [] (suc n) e = absurd (omega arith)
first_word_at (b ∷ bs) n e = by (is_blank b) refl n e (λ m h. first_word_at bs m h)
  where
    by : (t : Bool) → is_blank b ≡ t → (n : ℕ) → n ≡ word_length (b ∷ bs) → ((m : ℕ) → m ≡ word_length bs → FirstWord bs m) → FirstWord (b ∷ bs) n
    by true blank zero e more = record { parts = refl; solid = refl; ended = blank }
    by true blank (suc n) e more =
        let none : word_length (b ∷ bs) ≡ 0 = ap (λ (t : Bool). cond (not t) (1 + word_length bs) 0) blank in absurd (omega arith)
    by false solid zero e more =
        let some : word_length (b ∷ bs) ≡ 1 + word_length bs = ap (λ (t : Bool). cond (not t) (1 + word_length bs) 0) solid in absurd (omega arith)
    by false solid (suc n) e more =
        let some : word_length (b ∷ bs) ≡ 1 + word_length bs = ap (λ (t : Bool). cond (not t) (1 + word_length bs) 0) solid in
        let rest = more n (omega arith) in
        record {
          parts = ap (λ (t : List ℕ). b ∷ t) rest.parts;
          solid = ap (λ (t : Bool). not t && list_all is_solid (take n bs)) solid ∙ rest.solid;
          ended = rest.ended;
        }

pub first_word_is : (text : List ℕ) → IsWordBefore text (first_word text) (past_word text)
first_word_is text = let f = first_word_at text (word_length text) refl in record { parts = f.parts; solid = f.solid; ended = f.ended }

-- ---- the word behind one blank

pub next_is : (text word after : List ℕ) → IsNextWord text word after → next_word text ≡ Some (word, after)
next_is text word after is =
    let cut = word_cut is.rest word after is.word_is in
    ap next_word is.parts
    ∙ ap (λ (t : Bool). cond {A = Option (List ℕ × List ℕ)} t (Some (first_word is.rest, past_word is.rest)) None) is.divides
    ∙ (λ i. Some (cut.0 i, cut.1 i))

abbrev pair_or : Option (List ℕ × List ℕ) → List ℕ × List ℕ
pair_or None = ([], [])
pair_or (Some p) = p

pub is_next : (text word after : List ℕ) → next_word text ≡ Some (word, after) → IsNextWord text word after
is_next [] word after e = absurd cc
is_next (b ∷ bs) word after e = by (is_blank b) refl e
  where
    by : (t : Bool) → is_blank b ≡ t → cond {A = Option (List ℕ × List ℕ)} t (Some (first_word bs, past_word bs)) None ≡ Some (word, after) → IsNextWord (b ∷ bs) word after
    by true blank e =
        let same : (first_word bs, past_word bs) ≡ (word, after) = ap pair_or e in
        let one : first_word bs ≡ word = ap (λ (p : List ℕ × List ℕ). p.0) same in
        let two : past_word bs ≡ after = ap (λ (p : List ℕ × List ℕ). p.1) same in
        record {
          blank = b;
          rest = bs;
          parts = refl;
          divides = blank;
          word_is = subst (λ w. IsWordBefore bs w after) one (subst (λ a. IsWordBefore bs (first_word bs) a) two (first_word_is bs));
        }
    by false solid e = absurd cc

abbrev pair_with : List ℕ → Option Key → Option (Key × List ℕ)
pair_with a o = option_map (λ key. (key, a)) o

module _ {A : Type 0} where
  -- what is made of the next word
  pub with_is : (f : List ℕ → List ℕ → Option A) (text word after : List ℕ) → IsNextWord text word after → with_word text f ≡ f word after
  with_is f text word after is = ap (option_and_then (λ p. f p.0 p.1)) (next_is text word after is)

  pub record NextWord (f : List ℕ → List ℕ → Option A) (text : List ℕ) (x : A) : Type 0 where
    pub word : List ℕ
    pub after : List ℕ
    pub is : IsNextWord text word after
    pub makes : f word after ≡ Some x

  pub is_with : (f : List ℕ → List ℕ → Option A) (text : List ℕ) (x : A) → with_word text f ≡ Some x → NextWord f text x
  is_with f text x e = by (next_word text) refl e
    where
      by : (o : Option (List ℕ × List ℕ)) → next_word text ≡ o → option_and_then (λ p. f p.0 p.1) o ≡ Some x → NextWord f text x
      by None h e = absurd cc
      by (Some p) h e = record { word = p.0; after = p.1; is = is_next text p.0 p.1 h; makes = e }

  -- what is made of the next key
  pub record NextKey (f : Key → List ℕ → Option A) (text : List ℕ) (x : A) : Type 0 where
    pub word : List ℕ
    pub key : Key
    pub after : List ℕ
    pub is : IsNextWord text word after
    pub key_is : IsKeyWord word key
    pub makes : f key after ≡ Some x

  pub key_with : (f : Key → List ℕ → Option A) (text word after : List ℕ) (key : Key) → IsNextWord text word after → IsKeyWord word key → with_key text f ≡ f key after
  key_with f text word after key is key_is =
      ap (λ o. option_and_then (λ p. f p.0 p.1) (option_and_then (λ q. pair_with q.1 (key_at q.0)) o)) (next_is text word after is)
      ∙ ap (λ o. option_and_then (λ p. f p.0 p.1) (pair_with after o)) (key_word_is word key key_is)

  pub is_key_with : (f : Key → List ℕ → Option A) (text : List ℕ) (x : A) → with_key text f ≡ Some x → NextKey f text x
  is_key_with f text x e = by (next_word text) refl e
    where
      inner : (word after : List ℕ) (o : Option Key) → key_at word ≡ o → IsNextWord text word after
          → option_and_then (λ p. f p.0 p.1) (pair_with after o) ≡ Some x → NextKey f text x
      inner word after None h is e = absurd cc
      inner word after (Some k) h is e = record { word = word; key = k; after = after; is = is; key_is = key_at_is word k h; makes = e }

      by : (o : Option (List ℕ × List ℕ)) → next_word text ≡ o
          → option_and_then (λ p. f p.0 p.1) (option_and_then (λ q. pair_with q.1 (key_at q.0)) o) ≡ Some x → NextKey f text x
      by None h e = absurd cc
      by (Some p) h e = inner p.0 p.1 (key_at p.0) refl (is_next text p.0 p.1 h) e

-- ---- only blanks

pub at_end_is : {A : Type 0} (text : List ℕ) (x : A) → AreBlanks text → at_end text x ≡ Some x
at_end_is text x blanks = ap (λ (t : Bool). cond t (Some x) None) blanks

abbrev value_of : {A : Type 0} → A → Option A → A
value_of d None = d
value_of d (Some x) = x

pub is_at_end : {A : Type 0} (text : List ℕ) (x y : A) → at_end text x ≡ Some y → AreBlanks text × (x ≡ y)
is_at_end text x y e = by (are_blanks text) refl e
  where
    by : (t : Bool) → are_blanks text ≡ t → cond t (Some x) None ≡ Some y → AreBlanks text × (x ≡ y)
    by true h e = (h, ap (value_of x) e)
    by false h e = absurd cc

solid_blanks : (word after : List ℕ) → list_all is_solid word ≡ true → are_blanks (word ++ after) ≡ true → word ≡ []
solid_blanks [] after solid blanks = refl
solid_blanks (w ∷ word) after solid blanks =
    let s = not_false (is_blank w) (first_and_rest (is_solid w) (list_all is_solid word) solid).0 in
    let b = (first_and_rest (is_blank w) (are_blanks (word ++ after)) blanks).0 in
    let clash : true ≡ false = sym b ∙ s in absurd cc

-- a word among blanks is empty, and blanks follow it
pub blank_word : (text word after : List ℕ) → IsNextWord text word after → AreBlanks text → (word ≡ []) × AreBlanks after
blank_word text word after is blanks =
    let all : are_blanks (is.blank ∷ is.rest) ≡ true = ap are_blanks (sym is.parts) ∙ blanks in
    let rest : are_blanks is.rest ≡ true = (first_and_rest (is_blank is.blank) (are_blanks is.rest) all).1 in
    let parts : are_blanks (word ++ after) ≡ true = ap are_blanks (sym is.word_is.parts) ∙ rest in
    let none : word ≡ [] = solid_blanks word after is.word_is.solid parts in
    (none, ap (λ (w : List ℕ). are_blanks (w ++ after)) (sym none) ∙ parts)
