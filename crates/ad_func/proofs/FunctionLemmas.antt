-- Functions and their names.
use Rattle.std.proofs.Common.{◌≡◌, ◌==◌, ℕ, Bool, Decides, rules, true, false, true≢false, cond, List, [], ◌∷◌, length, Some, None, refl, ap, sym, ◌∙◌}
use borrow.Author.Tests.{eq-eqb}
use Rattle.std.proofs.lemmas.List.{length-map}
use Rattle.std.specs.Char.{to_ascii_lowercase}
use Rattle.std.specs.List.{filter, find}
use Rattle.std.specs.Str.{bytes_eq}
use Rattle.std.specs.Cmp.Lexicographic.{bytes_decides}
use Rattle.ad_value.specs.Names.{lowercase, same_name}
use Rattle.ad_func.specs.declared.function.ValueKind.TheVariants as kind
use Rattle.ad_func.specs.declared.function.Function.{Function}
use Rattle.ad_func.specs.declared.function.Function.TheVariants.{Is, IfThenElse, Int, String, Strcat, ToUpper, ToLower, Substr, Size, Member, StringListMember, StringListSize, Strcmp, Stricmp, Time}
use Rattle.ad_func.specs.Function.{function_name, functions, functions_of_length, function_named}
use Rattle.ad_func.specs.Laws.{NamesFunction}

pub each_is_found : (f : Function) → function_named (function_name f) ≡ Some f
each_is_found (Is kind.Undefined) = refl
each_is_found (Is kind.Error) = refl
each_is_found (Is kind.Str) = refl
each_is_found (Is kind.Int) = refl
each_is_found (Is kind.Bool) = refl
each_is_found (Is kind.List) = refl
each_is_found IfThenElse = refl
each_is_found Int = refl
each_is_found String = refl
each_is_found Strcat = refl
each_is_found ToUpper = refl
each_is_found ToLower = refl
each_is_found Substr = refl
each_is_found Size = refl
each_is_found Member = refl
each_is_found StringListMember = refl
each_is_found StringListSize = refl
each_is_found Strcmp = refl
each_is_found Stricmp = refl
each_is_found Time = refl

find_passes : {X : Type 0} (p : X → Bool) (xs : List X) (y : X) → find p xs ≡ Some y → p y ≡ true
find_passes p [] y e = let n : None ≡ Some y = e in cc
find_passes p (x ∷ xs) y e = by (p x) refl e (find_passes p xs y)
  where
    by : (b : Bool) → p x ≡ b → cond b (Some x) (find p xs) ≡ Some y → (find p xs ≡ Some y → p y ≡ true) → p y ≡ true
    by true h at rest = let same : x ≡ y = cc in ap p (sym same) ∙ h
    by false h at rest = rest at

-- what is left out by a test that all that is sought passes is not missed
find_among : {X : Type 0} (p q : X → Bool) (xs : List X) → ((x : X) → q x ≡ false → p x ≡ false) → find p (filter q xs) ≡ find p xs
find_among p q [] h = refl
find_among p q (x ∷ xs) h = by (q x) refl (find_among p q xs h)
  where
    by : (b : Bool) → q x ≡ b → find p (filter q xs) ≡ find p xs → find p (cond b (x ∷ filter q xs) (filter q xs)) ≡ cond (p x) (Some x) (find p xs)
    by true e rest = ap (λ r. cond (p x) (Some x) r) rest
    by false e rest = rest ∙ sym (ap (λ c. cond c (Some x) (find p xs)) (h x e))

-- names that are the same are as long
same_length : (a b : List ℕ) → same_name a b ≡ true → (length a == length b) ≡ true
same_length a b e =
    eq-eqb (length a) (length b) (sym (length-map a to_ascii_lowercase) ∙ ap length ((bytes_decides (lowercase a) (lowercase b)).0 e) ∙ length-map b to_ascii_lowercase)

pub named_by_length : (x : List ℕ) → find (λ f. same_name (function_name f) x) (functions_of_length (length x)) ≡ function_named x
named_by_length x = find_among (λ f. same_name (function_name f) x) (λ f. length (function_name f) == length x) functions (λ f e. other (same_name (function_name f) x) (function_name f) refl e)
  where
    other : (b : Bool) (y : List ℕ) → same_name y x ≡ b → (length y == length x) ≡ false → same_name y x ≡ false
    other true y e n = absurd (true≢false (sym (same_length y x e) ∙ n))
    other false y e n = e

pub names_function : (x : List ℕ) (f : Function) → NamesFunction x f
names_function x f = (find_passes (λ g. same_name (function_name g) x) functions f, λ e. ap (λ l. find (λ g. bytes_eq (lowercase (function_name g)) l) functions) (sym ((bytes_decides (lowercase (function_name f)) (lowercase x)).0 e)) ∙ each_is_found f)

-- A test of whether two lists are the same is that of their bytes.
pub same_test : (b : Bool) (x y : List ℕ) → Decides b (x ≡ y) → b ≡ bytes_eq x y
same_test b x y d = search (rules, bytes_decides)
