-- What `parse` reads, in the words of the definitions.
use Rattle.std.proofs.Common.{◌≡◌, ◌≢◌, ℕ, ℤ, pos, Bool, true, false, if◌then◌else◌, List, length, get_or, Result, Ok, Err, ap, sym, ◌∙◌, refl, map, rules, tests, w64}
use Rattle.std.specs.Result.{OkIff}
use Rattle.std.specs.Str.{all_ascii_digits}
use Rattle.std.specs.Str.Parse.{ParsesSigned, digits_value, starts_with_minus}
use Rattle.std.proofs.lemmas.Str.Parse.{IsNumeralModel, numerals_by_value, tells_all_ascii_digits, parse_signed_minus, parse_signed_plain}
use Rattle.std.proofs.lemmas.List.{length-map}
use Rattle.std.proofs.lemmas.Int.{to_z-of_z}
use mir.Val.{SFits, to_z, of_z}
use Rattle.ad_value.specs.declared.value.Value.{Value, the_lemmas}
use Rattle.ad_value.specs.declared.value.Value.TheVariants as value
use Rattle.ad_value.specs.declared.value.ValueList.{ValueList}
use Rattle.ad_value.specs.Content.{Content, error, integer, items, content, contents, contents_of, list_content, list_content-contents_of}
use Rattle.ad_func.specs.Numbers.{read_integer, size_of}

numeral : IsNumeralModel (λ ds. all_ascii_digits ds ≡ true) (digits_value 10)
numeral = numerals_by_value _ tells_all_ascii_digits

abbrev pub read : {E : Type 0} → Result ℤ E → Content
read (Ok n) = integer n
read (Err e) = error

by_test : {E : Type 0} (b : Bool) (r : Result ℤ E) (Q : Type 0) (x : ℤ) → OkIff r Q x → (Q → b ≡ true) → (b ≡ true → Q) → (if b then integer x else error) ≡ read r
by_test true (Ok n) Q x h to from = ap integer (sym h.1)
by_test true (Err e) Q x h to from = absurd (h (from refl))
by_test false (Ok n) Q x h to from = let e = to h.0 in cc
by_test false (Err e) Q x h to from = refl

pub read_is : {E : Type 0} (bs : List ℕ) (r : Result ℤ E) → ParsesSigned w64 10 bs r → get_or bs 0 0 ≢ 43 → read_integer bs ≡ read r
read_is bs r h plus = by (starts_with_minus bs) refl
  where
    by : (b : Bool) → starts_with_minus bs ≡ b → read_integer bs ≡ read r
    by true e = rw e (by_test _ r _ _ (parse_signed_minus numeral w64 bs r h (search (rules, tests))) (search (rules, tests)) (search (rules, tests)))
    by false e = rw e (by_test _ r _ _ (parse_signed_plain numeral w64 bs r h plus (search (rules, tests))) (search (rules, tests)) (search (rules, tests)))

-- a list is as long as its items
pub listed_is : (l : ValueList) → list_content (contents_of (contents l)) ≡ map content l.items.items
listed_is l = list_content-contents_of (contents l) ∙ search (rules, the_lemmas)

pub content_of_list : (l : ValueList) → content (value.List l) ≡ items (contents_of (contents l))
content_of_list l = search (rules, the_lemmas)

pub size_of_list : (v : Value) (l : ValueList) (r : Content) {n : ℕ} → v ≡ value.List l → r ≡ integer (pos n) → n ≡ length l.items.items → r ≡ size_of (content v)
size_of_list v l r e h k =
    h ∙ ap (λ m. integer (pos m)) (k ∙ sym (length-map l.items.items content) ∙ ap length (sym (listed_is l))) ∙ ap size_of (sym (ap content e ∙ content_of_list l))

pub content_of_integer : (n : ℤ) → SFits w64 n → content (value.Int (to_z w64 (of_z w64 n))) ≡ integer n
content_of_integer n fits = rw (to_z-of_z w64 n fits) (search (rules, the_lemmas))

pub content_of_error : content value.Error ≡ error
content_of_error = search (rules, the_lemmas)
