-- What values are: when two are the same, and what copies and texts of them are.
use Rattle.std.proofs.Common.{◌≡◌, ◌↔◌, ℕ, ◌+◌, ◌<◌, ◌≤◌, ℤ, List, [], ◌∷◌, ◌++◌, get_or, map, take, length, codes, append_assoc, true, false, true≢false, Vec, Global, refl, ap, sym, subst, ◌∙◌, rules}
use Rattle.std.proofs.Common as std
use Rattle.std.proofs.lemmas.List.{take_all, take_more, map-append, length-map}
use Rattle.std.specs.Bool.{IsTrue}
use Rattle.ad_value.specs.declared.value.Value.{Value, the_lemmas, out-Value, roll-Value, roll-out-Value, fold_out-Value, map-Value}
use Rattle.ad_value.specs.declared.value.Value.TheOpen.{Value-F}
use Rattle.ad_value.specs.declared.value.Value.TheVariants as value
use Rattle.ad_value.specs.declared.value.ValueList.{ValueList, roll-ValueList}
use Rattle.ad_value.specs.Content.{Content, undefined, error, truth, integer, text, items, content, contents, content_step, contents_step, contents_of}
use Rattle.ad_value.proofs.ContentLemmas.{items-injective, map-content-more}
use Rattle.ad_value.specs.Literal.{literal_text, items_text}

-- a value with its parts as they are
abbrev Layer : Type 0
Layer = Value-F Value ValueList

abbrev layer_content : Layer → Content
layer_content g = content_step (map-Value Value ValueList Content (List Content) content contents g)

-- the value is what its content tells
abbrev IsTold : Content → Value → Type 0
IsTold undefined f = f ≡ value.Undefined
IsTold error f = f ≡ value.Error
IsTold (truth b) f = (c : std.Bool) × (f ≡ value.Bool c)
IsTold (integer n) f = (m : ℤ) × (f ≡ value.Int m)
IsTold (text s) f = (u : List ℕ) × (f ≡ value.Str u)
IsTold (items cs) f = (l : ValueList) × (f ≡ value.List l)

layer_told : (g : Layer) → IsTold (layer_content g) (roll-Value g)
layer_told Value-F.Undefined = value.rolls-Undefined
layer_told Value-F.Error = value.rolls-Error
layer_told (Value-F.Bool b) = (b, value.rolls-Bool b)
layer_told (Value-F.Int n) = (n, value.rolls-Int n)
layer_told (Value-F.Str s) = (s, value.rolls-Str s)
layer_told (Value-F.List l) = (l, value.rolls-List l)

told : (f : Value) → IsTold (content f) f
told f =
    let made : content f ≡ layer_content (out-Value f) = fold_out-Value Content (List Content) content_step contents_step f in
    subst (λ c. IsTold c f) (sym made) (subst (λ h. IsTold (layer_content (out-Value f)) h) (roll-out-Value f) (layer_told (out-Value f)))

told_by : (c : Content) (f : Value) → c ≡ content f → IsTold c f
told_by c f e = subst (λ d. IsTold d f) (sym e) (told f)

-- what the contents of values are
content_undefined : (v : Value) → v ≡ value.Undefined → content v ≡ undefined
content_undefined v is = ap content is ∙ search (rules, the_lemmas)

content_error : (v : Value) → v ≡ value.Error → content v ≡ error
content_error v is = ap content is ∙ search (rules, the_lemmas)

content_truth : (v : Value) (b : std.Bool) → v ≡ value.Bool b → content v ≡ truth b
content_truth v b is = ap content is ∙ search (rules, the_lemmas)

content_integer : (v : Value) (n : ℤ) → v ≡ value.Int n → content v ≡ integer n
content_integer v n is = ap content is ∙ search (rules, the_lemmas)

content_text : (v : Value) (s : List ℕ) → v ≡ value.Str s → content v ≡ text s
content_text v s is = ap content is ∙ search (rules, the_lemmas)

content_items : (v : Value) (l : ValueList) → v ≡ value.List l → content v ≡ items (contents_of (contents l))
content_items v l is = ap content is ∙ search (rules, the_lemmas)

-- what is not so is answered by false
pub never : {P : Type 0} → (P → ⊥) → IsTrue false ↔ P
never not = (λ h. absurd (true≢false (sym h)), λ p. absurd (not p))

-- the other is something else
pub no_undefined : (v w : Value) → v ≡ value.Undefined → (w ≡ value.Undefined → ⊥) → IsTrue false ↔ (content v ≡ content w)
no_undefined v w is other = never (λ h. other (told_by undefined w (sym (content_undefined v is) ∙ h)))

pub no_error : (v w : Value) → v ≡ value.Error → (w ≡ value.Error → ⊥) → IsTrue false ↔ (content v ≡ content w)
no_error v w is other = never (λ h. other (told_by error w (sym (content_error v is) ∙ h)))

pub no_truth : (v w : Value) (b : std.Bool) → v ≡ value.Bool b → ((c : std.Bool) → w ≡ value.Bool c → ⊥) → IsTrue false ↔ (content v ≡ content w)
no_truth v w b is other = never (λ h. let t = told_by (truth b) w (sym (content_truth v b is) ∙ h) in other t.0 t.1)

pub no_integer : (v w : Value) (n : ℤ) → v ≡ value.Int n → ((m : ℤ) → w ≡ value.Int m → ⊥) → IsTrue false ↔ (content v ≡ content w)
no_integer v w n is other = never (λ h. let t = told_by (integer n) w (sym (content_integer v n is) ∙ h) in other t.0 t.1)

pub no_text : (v w : Value) (s : List ℕ) → v ≡ value.Str s → ((u : List ℕ) → w ≡ value.Str u → ⊥) → IsTrue false ↔ (content v ≡ content w)
no_text v w s is other = never (λ h. let t = told_by (text s) w (sym (content_text v s is) ∙ h) in other t.0 t.1)

pub no_items : (v w : Value) (l : ValueList) → v ≡ value.List l → ((m : ValueList) → w ≡ value.List m → ⊥) → IsTrue false ↔ (content v ≡ content w)
no_items v w l is other = never (λ h. let t = told_by (items _) w (sym (content_items v l is) ∙ h) in other t.0 t.1)

-- contents are the same where their parts are
by_parts : {r : std.Bool} {a b c d : Content} {P : Type 0} → a ≡ c → b ≡ d → (P → c ≡ d) → (c ≡ d → P) → (IsTrue r ↔ P) → IsTrue r ↔ (a ≡ b)
by_parts p q up down same = (λ h. p ∙ up (same.0 h) ∙ sym q, λ h. same.1 (down (sym p ∙ h ∙ q)))

pub same_undefined : (v w : Value) → v ≡ value.Undefined → w ≡ value.Undefined → IsTrue true ↔ (content v ≡ content w)
same_undefined v w is also = (λ _. content_undefined v is ∙ sym (content_undefined w also), λ _. refl)

pub same_errors : (v w : Value) → v ≡ value.Error → w ≡ value.Error → IsTrue true ↔ (content v ≡ content w)
same_errors v w is also = (λ _. content_error v is ∙ sym (content_error w also), λ _. refl)

pub same_truths : {r : std.Bool} (v w : Value) (b c : std.Bool) → v ≡ value.Bool b → w ≡ value.Bool c → (IsTrue r ↔ (b ≡ c)) → IsTrue r ↔ (content v ≡ content w)
same_truths v w b c is also = by_parts (content_truth v b is) (content_truth w c also) (λ h. ap truth h) (λ h. cc)

pub same_integers : {r : std.Bool} (v w : Value) (n m : ℤ) → v ≡ value.Int n → w ≡ value.Int m → (IsTrue r ↔ (n ≡ m)) → IsTrue r ↔ (content v ≡ content w)
same_integers v w n m is also = by_parts (content_integer v n is) (content_integer w m also) (λ h. ap integer h) (λ h. cc)

pub same_items : {r : std.Bool} (v w : Value) (l m : ValueList) → v ≡ value.List l → w ≡ value.List m → (IsTrue r ↔ (contents l ≡ contents m)) → IsTrue r ↔ (content v ≡ content w)
same_items v w l m is also = by_parts (content_items v l is) (content_items w m also) (λ h. ap (λ cs. items (contents_of cs)) h) (items-injective _ _)

-- lists of other lengths have other images
pub other_length : {A B : Type 0} (f : A → B) (xs ys : List A) → (length xs ≡ length ys → ⊥) → map f xs ≡ map f ys → ⊥
other_length f xs ys other h = other (sym (length-map xs f) ∙ ap length h ∙ length-map ys f)

-- a copy of a list value has a copy of the list
pub copied_items : (v : Value) (l m : ValueList) → v ≡ value.List l → contents m ≡ contents l → content (value.List m) ≡ content v
copied_items v l m is p = content_items (value.List m) m refl ∙ ap (λ cs. items (contents_of cs)) p ∙ sym (content_items v l is)

-- a list that code makes
pub contents-made : (v : Vec Value Global) → contents (roll-ValueList record { items = v }) ≡ map content v.items
contents-made v = search (rules, the_lemmas)

-- the images so far, where they are all
pub all_copied : {B C : Type 0} (g : B → C) (made : List C) (xs : List B) (i : ℕ) → length xs ≤ i → made ≡ map g (take i xs) → made ≡ map g xs
all_copied g made xs i past e = e ∙ ap (map g) (take_all i xs past)

-- the items so far, with a copy of one more
pub taken_more : {A : Type 0} (xs old new : List A) (i : ℕ) (x y : A) → i < length xs → x ≡ get_or xs i x → new ≡ old ++ y ∷ [] → y ≡ x → old ≡ take i xs → new ≡ take (i + 1) xs
taken_more xs old new i x y p at pushed copied e =
    pushed ∙ ap (λ l. l ++ y ∷ []) e ∙ ap (λ z. take i xs ++ z ∷ []) (copied ∙ at) ∙ sym (take_more xs i x p)

pub content_more : (xs : List Value) (old new : List Value) (i : ℕ) (x y : Value) → i < length xs → x ≡ get_or xs i x → new ≡ old ++ y ∷ [] → content y ≡ content x → map content old ≡ map content (take i xs) → map content new ≡ map content (take (i + 1) xs)
content_more xs old new i x y p at pushed copied e =
    ap (map content) pushed ∙ map-append content old (y ∷ []) ∙ ap (λ l. l ++ content y ∷ []) e ∙ ap (λ z. map content (take i xs) ++ z ∷ []) copied ∙ sym (map-content-more xs i x p at)

-- the text of a list value, piece by piece
pub items_written : (v : Value) (l : ValueList) (old opened inner closed : List ℕ) → v ≡ value.List l → opened ≡ old ++ codes "{" → inner ≡ opened ++ items_text (contents_of (contents l)) → closed ≡ inner ++ codes "}" → closed ≡ old ++ literal_text (content v)
items_written v l old opened inner closed is p q r =
    let within = items_text (contents_of (contents l)) in
    let regrouped : ((old ++ codes "{") ++ within) ++ codes "}" ≡ old ++ ((codes "{" ++ within) ++ codes "}") = simp append_assoc in
    r ∙ ap (λ t. t ++ codes "}") (q ∙ ap (λ t. t ++ within) p) ∙ regrouped ∙ ap (λ c. old ++ literal_text c) (sym (content_items v l is))
