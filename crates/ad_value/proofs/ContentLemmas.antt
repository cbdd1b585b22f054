-- Lists with equal contents.
use Rattle.std.proofs.Common.{◌≡◌, ℕ, ◌<◌, ◌+◌, List, [], ◌∷◌, ◌++◌, length, get_or, map, ap, sym, ◌∙◌, rules, take}
use Rattle.std.proofs.lemmas.List.{get_or-map, take_more, map-append}
use Rattle.ad_value.specs.declared.value.Value.{Value, the_lemmas}
use Rattle.ad_value.specs.declared.value.ValueList.{ValueList}
use Rattle.ad_value.specs.Content.{Content, Contents, undefined, error, truth, integer, text, items, content, contents, contents_of, contents_of-injective}

-- a list's contents are its values' contents
pub contents-map : (l : ValueList) → contents l ≡ map content l.items.items
contents-map l = search (rules, the_lemmas)

-- a list value's items
abbrev within : Content → Contents → Contents
within undefined none = none
within error none = none
within (truth b) none = none
within (integer n) none = none
within (text s) none = none
within (items cs) none = cs

-- list values are equal where their items are
pub items-injective : (cs ds : List Content) → items (contents_of cs) ≡ items (contents_of ds) → cs ≡ ds
items-injective cs ds e = contents_of-injective cs ds (ap (λ c. within c (contents_of cs)) e)

-- lists with equal contents have them at each place
pub same_at : (xs ys : List Value) (i : ℕ) (x y : Value) → i < length xs → i < length ys → x ≡ get_or xs i x → y ≡ get_or ys i y → map content xs ≡ map content ys → content x ≡ content y
same_at xs ys i x y p q at_x at_y e =
    ap content at_x ∙ sym (get_or-map content xs i x (content x) p) ∙ ap (λ l. get_or l i (content x)) e ∙ get_or-map content ys i y (content x) q ∙ ap content (sym at_y)

-- the contents of one value more
pub map-content-more : (vs : List Value) (i : ℕ) (v : Value) → i < length vs → v ≡ get_or vs i v → map content (take (i + 1) vs) ≡ map content (take i vs) ++ content v ∷ []
map-content-more vs i v p at =
    ap (map content) (take_more vs i v p ∙ ap (λ x. take i vs ++ x ∷ []) (sym at)) ∙ map-append content (take i vs) (v ∷ [])
