-- An odd number of single quotes is never closed.
use Rattle.std.proofs.Common.{◌≡◌, ℕ, ◌+◌, ◌*◌, ◌-◌, ◌==◌, Bool, true, false, cond, List, [], ◌∷◌, ◌++◌, None, refl, ap, sym, ◌∙◌, subst, arith}
use Rattle.std.specs.Prelude.{chars}
use Rattle.std.specs.List.{count_by}
use Rattle.std.specs.Option.{option_map}
use Rattle.std.proofs.lemmas.List.Sums.{sum_by-append}
use Rattle.ad_value.specs.Bytes.{code}
use Rattle.line_text.specs.declared.words.Place.{Place}
use Rattle.line_text.specs.declared.words.Place.TheVariants.{Between, Inside, Quoted, Closing}
use Rattle.line_text.specs.Words.{words_of, words_from, next_place, place_outside, is_between, word_at, with_part}
use Rattle.line_text.proofs.WordLemmas.{words_step}

abbrev quotes : List ℕ → ℕ
quotes cs = count_by (λ c. c == code "'") cs

abbrev open_at : Place → ℕ
open_at Quoted = 1
open_at place = 0

record IsOdd (k : ℕ) : Type 0 where
  half : ℕ
  is : k ≡ 2 * half + 1

one_more : (c : ℕ) (cs : List ℕ) (b : Bool) → (c == code "'") ≡ b → quotes (c ∷ cs) ≡ cond b 1 0 + quotes cs
one_more c cs b is =
    sum_by-append (λ c. cond (c == code "'") 1 0) (c ∷ []) cs
    ∙ by (cond (c == code "'") 1 0) (quotes cs)
    ∙ ap (λ b. cond b 1 0 + quotes cs) is
  where
    by : (n k : ℕ) → 0 + n + k ≡ n + k
    by n k = omega arith

open_cond : (b blank : Bool) → open_at (cond b Quoted (cond blank Between Inside)) ≡ cond b 1 0
open_cond true blank = refl
open_cond false true = refl
open_cond false false = refl

open_outside : (c : ℕ) → open_at (place_outside true c) ≡ cond (c == code "'") 1 0
open_outside c = open_cond (c == code "'") _

outside : (c : ℕ) (cs : List ℕ) (b : Bool) → (c == code "'") ≡ b → IsOdd (quotes (c ∷ cs) + 0) → IsOdd (quotes cs + open_at (place_outside true c))
outside c cs b is odd =
    subst (λ n. IsOdd (quotes cs + n)) (sym (open_outside c ∙ ap (λ b. cond b 1 0) is))
    (by b (quotes (c ∷ cs)) (one_more c cs b is) odd)
  where
    by : (b : Bool) (k : ℕ) → k ≡ cond b 1 0 + quotes cs → IsOdd (k + 0) → IsOdd (quotes cs + cond b 1 0)
    by true k e odd = record { half = odd.half; is = omega (arith, e, odd.is) }
    by false k e odd = record { half = odd.half; is = omega (arith, e, odd.is) }

within : (c : ℕ) (cs : List ℕ) (b : Bool) → (c == code "'") ≡ b → IsOdd (quotes (c ∷ cs) + 1) → IsOdd (quotes cs + open_at (cond b Closing Quoted))
within c cs b is odd = by b (quotes (c ∷ cs)) (one_more c cs b is) odd
  where
    by : (b : Bool) (k : ℕ) → k ≡ cond b 1 0 + quotes cs → IsOdd (k + 1) → IsOdd (quotes cs + open_at (cond b Closing Quoted))
    by true k e odd = record { half = odd.half - 1; is = omega (arith, e, odd.is) }
    by false k e odd = record { half = odd.half; is = omega (arith, e, odd.is) }

odd_after : (place : Place) (c : ℕ) (cs : List ℕ) → IsOdd (quotes (c ∷ cs) + open_at place) → IsOdd (quotes cs + open_at (next_place place true c))
odd_after Quoted c cs odd = within c cs (c == code "'") refl odd
odd_after Closing c cs odd = outside c cs (c == code "'") refl odd
odd_after Inside c cs odd = outside c cs (c == code "'") refl odd
odd_after Between c cs odd = outside c cs (c == code "'") refl odd

go_on : (place : Place) (word : List ℕ) (begun : List (List ℕ)) (cs : List ℕ) → ((p : Place) (w : List ℕ) → IsOdd (quotes cs + open_at p) → words_from true p w cs ≡ None) → IsOdd (quotes cs + open_at place) → cond (is_between place) (option_map (λ ws. begun ++ ws) (words_from true Between [] cs)) (words_from true place word cs) ≡ None
go_on Between word begun cs rest odd = ap (option_map (λ ws. begun ++ ws)) (rest Between [] odd)
go_on Inside word begun cs rest odd = rest Inside word odd
go_on Quoted word begun cs rest odd = rest Quoted word odd
go_on Closing word begun cs rest odd = rest Closing word odd

not_odd : IsOdd (0 + 0) → ⊥
not_odd odd = by odd.half odd.is
  where
    by : (n : ℕ) → 0 ≡ 2 * n + 1 → ⊥
    by n e = omega (arith, e)

never_closed : (cs : List ℕ) (place : Place) (word : List ℕ) → IsOdd (quotes cs + open_at place) → words_from true place word cs ≡ None
unfolding words_from
never_closed [] Quoted word odd = refl
never_closed [] Between word odd = absurd (not_odd odd)
never_closed [] Inside word odd = absurd (not_odd odd)
never_closed [] Closing word odd = absurd (not_odd odd)
never_closed (c ∷ cs) place word odd =
    words_step true place word c cs
    ∙ go_on (next_place place true c) (with_part place (next_place place true c) word c) (word_at place word) cs (λ p w o. never_closed cs p w o) (odd_after place c cs odd)

pub odd_quotes : (line : List ℕ) (n : ℕ) → count_by (λ c. c == code "'") (chars line) ≡ 2 * n + 1 → words_of true line ≡ None
odd_quotes line n e = never_closed (chars line) Between [] (record { half = n; is = omega (arith, e) })
