-- One character more.
use Rattle.std.proofs.Common.{◌≡◌, ℕ, Bool, true, false, cond, List, [], ◌∷◌, ◌++◌, Option, Some, None, refl, ap, sym, ◌∙◌, append_assoc}
use Rattle.std.specs.Option.{option_map}
use Rattle.std.specs.Str.{chars}
use Rattle.line_text.specs.declared.words.Place.{Place}
use Rattle.line_text.specs.declared.words.Place.TheVariants.{Between, Inside, Quoted, Closing}
use Rattle.line_text.specs.Words.{words_of, words_from, next_place, is_between, word_at, with_part}

pub words_step : (quoted : Bool) (place : Place) (word : List ℕ) (c : ℕ) (cs : List ℕ) → words_from quoted place word (c ∷ cs) ≡ cond (is_between (next_place place quoted c)) (option_map (λ ws. word_at place word ++ ws) (words_from quoted Between [] cs)) (words_from quoted (next_place place quoted c) (with_part place (next_place place quoted c) word c) cs)
unfolding words_from
words_step quoted Between word c cs = refl
words_step quoted Inside word c cs = refl
words_step quoted Quoted word c cs = refl
words_step quoted Closing word c cs = refl

before_words : (xs ys : List (List ℕ)) (o : Option (List (List ℕ))) → option_map (λ ws. xs ++ ws) (option_map (λ ws. ys ++ ws) o) ≡ option_map (λ ws. (xs ++ ys) ++ ws) o
before_words xs ys None = refl
before_words xs ys (Some ws) = ap Some (sym (append_assoc xs ys ws))

module _ (all : Option (List (List ℕ))) (words : List (List ℕ)) (quoted : Bool) (place : Place) (word : List ℕ) (c : ℕ) (cs left : List ℕ) (rest : all ≡ option_map (λ ws. words ++ ws) (words_from quoted place word left)) (is : left ≡ c ∷ cs) (next : Place) (to : next ≡ next_place place quoted c) where
  here : all ≡ option_map (λ ws. words ++ ws) (cond (is_between next) (option_map (λ ws. word_at place word ++ ws) (words_from quoted Between [] cs)) (words_from quoted next (with_part place next word c) cs))
  here =
      rest ∙ ap (λ l. option_map (λ ws. words ++ ws) (words_from quoted place word l)) is
      ∙ ap (option_map (λ ws. words ++ ws)) (words_step quoted place word c cs)
      ∙ ap (λ p. option_map (λ ws. words ++ ws) (cond (is_between p) (option_map (λ ws. word_at place word ++ ws) (words_from quoted Between [] cs)) (words_from quoted p (with_part place p word c) cs))) (sym to)

  between_is : (p : Place) → is_between p ≡ true → p ≡ Between
  between_is Between h = refl
  between_is Inside h = absurd (no h)
    where
      no : false ≡ true → ⊥
      no h = cc
  between_is Quoted h = absurd (no h)
    where
      no : false ≡ true → ⊥
      no h = cc
  between_is Closing h = absurd (no h)
    where
      no : false ≡ true → ⊥
      no h = cc

  pub word_ends : (new : List (List ℕ)) (w : List ℕ) → is_between next ≡ true → new ≡ words ++ word_at place word → w ≡ [] → all ≡ option_map (λ ws. new ++ ws) (words_from quoted next w cs)
  word_ends new w h add empty =
      here ∙ ap (λ b. option_map (λ ws. words ++ ws) (cond b (option_map (λ ws. word_at place word ++ ws) (words_from quoted Between [] cs)) (words_from quoted next (with_part place next word c) cs))) h
      ∙ before_words words (word_at place word) (words_from quoted Between [] cs)
      ∙ (λ i. option_map (λ ws. sym add i ++ ws) (words_from quoted (sym (between_is next h) i) (sym empty i) cs))

  pub word_goes_on : (w : List ℕ) → is_between next ≡ false → w ≡ with_part place next word c → all ≡ option_map (λ ws. words ++ ws) (words_from quoted next w cs)
  word_goes_on w h add =
      here ∙ ap (λ b. option_map (λ ws. words ++ ws) (cond b (option_map (λ ws. word_at place word ++ ws) (words_from quoted Between [] cs)) (words_from quoted next (with_part place next word c) cs))) h
      ∙ ap (λ v. option_map (λ ws. words ++ ws) (words_from quoted next v cs)) (sym add)

-- no character is left
pub open_quote : (all : Option (List (List ℕ))) (words : List (List ℕ)) (quoted : Bool) (word left : List ℕ) → all ≡ option_map (λ ws. words ++ ws) (words_from quoted Quoted word left) → left ≡ [] → None ≡ all
unfolding words_from
open_quote all words quoted word left rest is = sym (rest ∙ ap (λ l. option_map (λ ws. words ++ ws) (words_from quoted Quoted word l)) is)

pub last_word : (all : Option (List (List ℕ))) (words new : List (List ℕ)) (quoted : Bool) (place : Place) (word left : List ℕ) → all ≡ option_map (λ ws. words ++ ws) (words_from quoted place word left) → left ≡ [] → (place ≡ Quoted → ⊥) → new ≡ words ++ word_at place word → Some new ≡ all
unfolding words_from
last_word all words new quoted Quoted word left rest is not_open add = absurd (not_open refl)
last_word all words new quoted Between word left rest is not_open add = ap Some add ∙ sym (rest ∙ ap (λ l. option_map (λ ws. words ++ ws) (words_from quoted Between word l)) is)
last_word all words new quoted Inside word left rest is not_open add = ap Some add ∙ sym (rest ∙ ap (λ l. option_map (λ ws. words ++ ws) (words_from quoted Inside word l)) is)
last_word all words new quoted Closing word left rest is not_open add = ap Some add ∙ sym (rest ∙ ap (λ l. option_map (λ ws. words ++ ws) (words_from quoted Closing word l)) is)

pub words_begin : (quoted : Bool) (text word : List ℕ) (words : List (List ℕ)) → words ≡ [] → word ≡ [] → words_of quoted text ≡ option_map (λ ws. words ++ ws) (words_from quoted Between word (chars text))
words_begin quoted text word words none empty =
    by (words_from quoted Between [] (chars text)) ∙ (λ i. option_map (λ ws. sym none i ++ ws) (words_from quoted Between (sym empty i) (chars text)))
  where
    by : (o : Option (List (List ℕ))) → o ≡ option_map (λ ws. [] ++ ws) o
    by None = refl
    by (Some ws) = refl
