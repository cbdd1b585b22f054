-- One line more, and the first that says nothing.
use Rattle.std.proofs.Common.{◌≡◌, ℕ, ◌<◌, ◌≤◌, ◌+◌, true, false, List, [], ◌∷◌, ◌++◌, length, take, drop, get_or, filter_map, refl, sym, ◌∙◌, ap, subst, arith, length-append, add-one, drop-cons, suc}
use Rattle.std.specs.List.{AllZip}
use Rattle.std.proofs.lemmas.List.{take_more, take-append-drop}
use Rattle.std.proofs.lemmas.List.Elements.{filter_map-append}
use Rattle.line_text.specs.declared.logical.Line.{Line}
use Rattle.script_plan.specs.declared.entry.Entry.{Entry}
use Rattle.script_plan.specs.declared.entry.Entry.TheVariants as entry
use Rattle.script_plan.specs.declared.error.ScriptError.{ScriptError}
use Rattle.script_plan.specs.declared.error.ScriptError.TheVariants as error
use Rattle.script_plan.specs.Entries.{load_in}
use Rattle.script_plan.specs.Scripts.{LineSays, AreSaid, SaidNext, IsRefusedIn, IsRefusedNext, is_second_load, has_load}
use Rattle.script_plan.proofs.OneEntry.{one_entry}

all_zip_push : {A B : Type 0} (R : A → B → Type 0) (xs : List A) (ys : List B) (x : A) (y : B) → AllZip R xs ys → R x y → AllZip R (xs ++ x ∷ []) (ys ++ y ∷ [])
all_zip_push R [] [] x y each one = (one, tt)
all_zip_push R [] (b ∷ ys) x y each one = absurd each
all_zip_push R (a ∷ xs) [] x y each one = absurd each
all_zip_push R (a ∷ xs) (b ∷ ys) x y each one = (each.0, all_zip_push R xs ys x y each.1 one)

-- what goes with a list and one more
record Split {A B : Type 0} (R : A → B → Type 0) (xs : List A) (x : A) (zs : List B) : Type 0 where
  before : List B
  last : B
  whole : zs ≡ before ++ last ∷ []
  each : AllZip R xs before
  one : R x last

all_zip_split : {A B : Type 0} (R : A → B → Type 0) (xs : List A) (x : A) (zs : List B) → AllZip R (xs ++ x ∷ []) zs → Split R xs x zs
all_zip_split R [] x [] each = absurd each
all_zip_split R [] x (z ∷ []) each = record { before = []; last = z; whole = refl; each = tt; one = each.0 }
all_zip_split R [] x (z ∷ w ∷ zs) each = absurd each.1
all_zip_split R (a ∷ xs) x [] each = absurd each
all_zip_split R (a ∷ xs) x (z ∷ zs) each =
    let s = all_zip_split R xs x zs each.1 in
    record { before = z ∷ s.before; last = s.last; whole = ap (λ l. z ∷ l) s.whole; each = (each.0, s.each); one = s.one }

pub all_zip_one : {A B : Type 0} (R : A → B → Type 0) → ((a : A) (b c : B) → R a b → R a c → b ≡ c) → (xs : List A) (ys zs : List B) → AllZip R xs ys → AllZip R xs zs → ys ≡ zs
all_zip_one R one [] [] [] each other = refl
all_zip_one R one [] [] (z ∷ zs) each other = absurd other
all_zip_one R one [] (y ∷ ys) zs each other = absurd each
all_zip_one R one (x ∷ xs) [] zs each other = absurd each
all_zip_one R one (x ∷ xs) (y ∷ ys) [] each other = absurd other
all_zip_one R one (x ∷ xs) (y ∷ ys) (z ∷ zs) each other =
    let first = one x y z each.0 other.0 in
    let rest = all_zip_one R one xs ys zs each.1 other.1 in
    λ i. first i ∷ rest i

-- the loads of the entries, by whether there is one
no_load : (es : List Entry) → has_load es ≡ false → length (filter_map load_in es) ≡ 0
no_load [] none = refl
no_load (entry.Load l ∷ es) none = absurd cc
no_load (entry.Order w ∷ es) none = no_load es none
no_load (entry.Lose n ∷ es) none = no_load es none
no_load (entry.Repeat n ∷ es) none = no_load es none
no_load (entry.Late n ∷ es) none = no_load es none
no_load (entry.Crash c ∷ es) none = no_load es none

some_load : (es : List Entry) → has_load es ≡ true → 0 < length (filter_map load_in es)
some_load [] some = absurd cc
some_load (entry.Load l ∷ es) some = omega arith
some_load (entry.Order w ∷ es) some = some_load es some
some_load (entry.Lose n ∷ es) some = some_load es some
some_load (entry.Repeat n ∷ es) some = some_load es some
some_load (entry.Late n ∷ es) some = some_load es some
some_load (entry.Crash c ∷ es) some = some_load es some

loads_more : (es : List Entry) (e : Entry) → length (filter_map load_in (es ++ e ∷ [])) ≡ length (filter_map load_in es) + length (filter_map load_in (e ∷ []))
loads_more es e = ap length (filter_map-append load_in es (e ∷ [])) ∙ length-append (filter_map load_in es) (filter_map load_in (e ∷ []))

still_one : (es : List Entry) (e : Entry) → is_second_load es e ≡ false → length (filter_map load_in es) ≤ 1 → length (filter_map load_in es) + length (filter_map load_in (e ∷ [])) ≤ 1
still_one es (entry.Load l) lone one = let none = no_load es lone in omega arith
still_one es (entry.Order w) lone one = omega arith
still_one es (entry.Lose n) lone one = omega arith
still_one es (entry.Repeat n) lone one = omega arith
still_one es (entry.Late n) lone one = omega arith
still_one es (entry.Crash c) lone one = omega arith

one_too_many : (es : List Entry) (e : Entry) → is_second_load es e ≡ true → 1 < length (filter_map load_in es) + length (filter_map load_in (e ∷ []))
one_too_many es (entry.Load l) second = let some = some_load es second in omega arith
one_too_many es (entry.Order w) second = absurd cc
one_too_many es (entry.Lose n) second = absurd cc
one_too_many es (entry.Repeat n) second = absurd cc
one_too_many es (entry.Late n) second = absurd cc
one_too_many es (entry.Crash c) second = absurd cc

said_more : (machines : List (List ℕ)) (lines : List Line) (es : List Entry) (line : Line) (e : Entry) → AreSaid machines lines es → SaidNext machines es line e → AreSaid machines (lines ++ line ∷ []) (es ++ e ∷ [])
said_more machines lines es line e said next = record {
  said = all_zip_push (LineSays machines) lines es line e said.said next.said;
  one_load = rw (loads_more es e) (still_one es e next.lone said.one_load);
}

-- behind lines that say these entries, a line that says nothing more
unsaid : (machines : List (List ℕ)) (lines : List Line) (es : List Entry) (line : Line) → AreSaid machines lines es → ((e : Entry) → LineSays machines line e → is_second_load es e ≡ true) → (others : List Entry) → ¬ AreSaid machines (lines ++ line ∷ []) others
unsaid machines lines es line said second others = λ all.
    let s = all_zip_split (LineSays machines) lines line others all.said in
    let same = all_zip_one (LineSays machines) (one_entry machines) lines s.before es s.each said.said in
    let many = one_too_many es s.last (second s.last s.one) in
    let few : length (filter_map load_in (es ++ s.last ∷ [])) ≤ 1 = subst (λ (l : List Entry). length (filter_map load_in l) ≤ 1) (s.whole ∙ ap (λ (l : List Entry). l ++ s.last ∷ []) same) all.one_load in
    let sum = loads_more es s.last in
    let none : ⊥ = omega arith in
    none

refused_at : (machines : List (List ℕ)) (lines before after : List Line) (es : List Entry) (line : Line) → lines ≡ before ++ line ∷ after → AreSaid machines before es → (e : ScriptError) → IsRefusedNext machines es line e → IsRefusedIn machines lines e
refused_at machines lines before after es line whole said (error.BadLine number) next = record {
  before = before;
  bad = line;
  after = after;
  whole = whole;
  entries = es;
  said = said;
  unsaid = unsaid machines before es line said next.1;
  numbered = next.0;
}
refused_at machines lines before after es line whole said error.Memory next = tt

-- a list at one of its places
cut_at : {X : Type 0} (xs : List X) (i : ℕ) (x : X) → i < length xs → x ≡ get_or xs i x → xs ≡ take i xs ++ x ∷ drop (i + 1) xs
cut_at xs i x inside is =
    sym (take-append-drop i xs)
    ∙ ap (λ l. take i xs ++ l) (rw (add-one, drop-cons xs i x) (ap (λ y. y ∷ drop (suc i) xs) (sym is)))

-- the lines so far with the one at a place
pub said_to : (machines : List (List ℕ)) (lines : List Line) (i : ℕ) (es : List Entry) (line : Line) (e : Entry) → i < length lines → line ≡ get_or lines i line → AreSaid machines (take i lines) es → SaidNext machines es line e → AreSaid machines (take (i + 1) lines) (es ++ e ∷ [])
said_to machines lines i es line e inside is said next =
    subst (λ (ls : List Line). AreSaid machines ls (es ++ e ∷ []))
    (ap (λ l. take i lines ++ l ∷ []) is ∙ sym (take_more lines i line inside))
    (said_more machines (take i lines) es line e said next)

pub refused_by : (machines : List (List ℕ)) (lines : List Line) (i : ℕ) (es : List Entry) (line : Line) → i < length lines → line ≡ get_or lines i line → AreSaid machines (take i lines) es → (e : ScriptError) → IsRefusedNext machines es line e → IsRefusedIn machines lines e
refused_by machines lines i es line inside is said e next =
    refused_at machines lines (take i lines) (drop (i + 1) lines) es line (cut_at lines i line inside is) said e next
