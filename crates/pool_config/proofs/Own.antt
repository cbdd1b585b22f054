-- A machine's own attributes, behind those of the pool.
use Rattle.std.proofs.Common.{◌≡◌, ℕ, Bool, true, false, true≢false, cond, not, List, [], ◌∷◌, ◌++◌, Option, Some, None, refl, ap, sym, ◌∙◌, subst, append_assoc, append-nil}
use Rattle.std.specs.Prelude.{◌&&◌, ◌||◌, nat_eq, codes, find, length, option_map}
use Rattle.std.specs.List.{list_any}
use Rattle.ad_value.specs.Names.{same_name}
use Rattle.ad_tree.specs.Ad.{Attributes, lookup, names, with_attribute}
use Rattle.ad_tree.specs.Tree.{Tree}
use Rattle.ad_token.specs.Names.{is_name}
use Rattle.ad_value.specs.Groups.{pool_names}
use Rattle.pool_config.specs.declared.setting_word.PoolWord.{PoolWord}
use Rattle.pool_config.specs.declared.setting_word.SlotWord.{SlotWord}
use Rattle.pool_config.specs.Configuration.{ConfiguredMachine}
use Rattle.pool_config.specs.Keys.{Sets, of_pool, ceiling, prio_factor, of_slots, attribute}
use Rattle.pool_config.specs.Names.{slot_attributes, job_attributes, is_taken, attribute_sets, user_sets, dotted_sets, pool_words, pool_word_name, slot_words, slot_word_name, sets_with, name_sets, or_else, cut_at}
use Rattle.pool_config.specs.Slots.{pool_attributes, slot_ad, with_attributes}
use Rattle.ad_value.specs.Bytes.{code}

-- none of the names is the same as this one
pub Apart : List ℕ → Attributes → Type 0
Apart x [] = Unit {0}
Apart x (a ∷ ad) = (same_name a.0 x ≡ false) × Apart x ad

-- no name is one of the pool's, and no two are the same
unfoldable pub Own : Attributes → Type 0
Own [] = Unit {0}
Own (a ∷ ad) = (list_any (same_name a.0) slot_attributes ≡ false) × (Apart a.0 ad × Own ad)

-- ---- one more

apart_by : (x y : List ℕ) (e : Tree) (a : List ℕ × Tree) (ad : Attributes) → same_name a.0 y ≡ false → Apart y ad → Apart y (with_attribute x e ad) → (b : Bool) → Apart y (cond b ((a.0, e) ∷ ad) (a ∷ with_attribute x e ad))
unfolding Apart
apart_by x y e a ad one rest after true = (one, rest)
apart_by x y e a ad one rest after false = (one, after)

apart_after : (x y : List ℕ) (e : Tree) (ad : Attributes) → Apart y ad → same_name x y ≡ false → Apart y (with_attribute x e ad)
unfolding Apart
apart_after x y e [] apart other = (other, tt)
apart_after x y e (a ∷ ad) apart other = apart_by x y e a ad apart.0 apart.1 (apart_after x y e ad apart.1 other) (same_name x a.0)

own_by : (x : List ℕ) (e : Tree) (a : List ℕ × Tree) (ad : Attributes) → Own (a ∷ ad) → Own (with_attribute x e ad) → (b : Bool) → same_name x a.0 ≡ b → Own (cond b ((a.0, e) ∷ ad) (a ∷ with_attribute x e ad))
unfolding Own
own_by x e a ad own after true same = (own.0, (own.1.0, own.1.1))
own_by x e a ad own after false other = (own.0, (apart_after x a.0 e ad own.1.0 other, after))

pub own_after : (x : List ℕ) (e : Tree) (ad : Attributes) → list_any (same_name x) slot_attributes ≡ false → Own ad → Own (with_attribute x e ad)
unfolding Own Apart
own_after x e [] free own = (free, (tt, tt))
own_after x e (a ∷ ad) free own = own_by x e a ad own (own_after x e ad free own.1.1) (same_name x a.0) refl

-- ---- what a name sets

unfoldable pub Free : Sets → Type 0
Free (of_pool w) = Unit {0}
Free (ceiling u) = Unit {0}
Free (prio_factor u) = Unit {0}
Free (of_slots w) = Unit {0}
Free (attribute x) = list_any (same_name x) slot_attributes ≡ false

FreeIf : Option Sets → Type 0
FreeIf None = Unit {0}
FreeIf (Some k) = Free k

not_taken : (p a r : Bool) → p && not (a || r) ≡ true → a ≡ false
not_taken true true r h = absurd (true≢false (sym h))
not_taken true false r h = refl
not_taken false a r h = absurd (true≢false (sym h))

free_attribute : (x : List ℕ) (b : Bool) → is_name x && not (is_taken x) ≡ b → FreeIf (cond b (Some (attribute x)) None)
unfolding FreeIf Free
free_attribute x true h = not_taken (is_name x) (list_any (same_name x) slot_attributes) (list_any (same_name x) job_attributes || list_any (same_name x) pool_names) h
free_attribute x false h = tt

free_user : (u : List ℕ) (b c : Bool) → FreeIf (cond b (Some (ceiling u)) (cond c (Some (prio_factor u)) None))
unfolding FreeIf Free
free_user u true c = tt
free_user u false true = tt
free_user u false false = tt

free_cond : (b : Bool) (k m : Option Sets) → FreeIf k → FreeIf m → FreeIf (cond b k m)
free_cond true k m h g = h
free_cond false k m h g = g

free_none : FreeIf None
unfolding FreeIf
free_none = tt

free_word : (p : Option PoolWord) (w : Option SlotWord) → FreeIf (or_else (option_map of_pool p) (option_map of_slots w))
unfolding FreeIf Free
free_word (Some p) w = tt
free_word None (Some w) = tt
free_word None None = tt

free_dotted : (prefix rest : List ℕ) → FreeIf (dotted_sets prefix rest)
free_dotted prefix rest =
    free_cond (same_name prefix (codes "ATTR")) (attribute_sets rest) (cond (nat_eq (length rest) 0) None (user_sets prefix rest))
    (free_attribute rest (is_name rest && not (is_taken rest)) refl)
    (free_cond (nat_eq (length rest) 0) None (user_sets prefix rest) free_none
    (free_user rest (same_name prefix (codes "CEILING")) (same_name prefix (codes "PRIO_FACTOR"))))

free_with : (name : List ℕ) (o : Option (List ℕ × List ℕ)) → FreeIf (sets_with name o)
free_with name (Some p) = free_dotted p.0 p.1
free_with name None = free_word (find (λ w. same_name name (pool_word_name w)) pool_words) (find (λ w. same_name name (slot_word_name w)) slot_words)

pub free_sets : (name : List ℕ) (k : Sets) → name_sets name ≡ Some k → Free k
unfolding FreeIf
free_sets name k is = subst FreeIf is (free_with name (cut_at (code ".") name))

-- ---- the ad of a slot

-- each is apart from those of an ad
IsApart : Attributes → Attributes → Type 0
IsApart [] ad = Unit {0}
IsApart (a ∷ rest) ad = (lookup a.0 ad ≡ None) × IsApart rest ad

absent_by : (x : List ℕ) (a : List ℕ × Tree) (ad : Attributes) (b : Bool) → b || list_any (same_name x) (names ad) ≡ false → (list_any (same_name x) (names ad) ≡ false → lookup x ad ≡ None) → cond b (Some a.1) (lookup x ad) ≡ None
absent_by x a ad true h rest = absurd (true≢false h)
absent_by x a ad false h rest = rest h

absent : (x : List ℕ) (ad : Attributes) → list_any (same_name x) (names ad) ≡ false → lookup x ad ≡ None
absent x [] h = refl
absent x (a ∷ ad) h = absent_by x a ad (same_name x a.0) h (absent x ad)

abbrev Nothing : Option Tree
Nothing = None

found : Option Tree → Bool
found None = false
found (Some e) = true

new_by : (x : List ℕ) (e : Tree) (a : List ℕ × Tree) (ad : Attributes) (b : Bool) → cond b (Some a.1) (lookup x ad) ≡ Nothing → (lookup x ad ≡ Nothing → with_attribute x e ad ≡ ad ++ (x, e) ∷ []) → cond b ((a.0, e) ∷ ad) (a ∷ with_attribute x e ad) ≡ a ∷ (ad ++ (x, e) ∷ [])
unfolding found
new_by x e a ad true h rest = absurd (true≢false (ap found h))
new_by x e a ad false h rest = ap (λ l. a ∷ l) (rest h)

new_last : (x : List ℕ) (e : Tree) (ad : Attributes) → lookup x ad ≡ Nothing → with_attribute x e ad ≡ ad ++ (x, e) ∷ []
new_last x e [] h = refl
new_last x e (a ∷ ad) h = new_by x e a ad (same_name x a.0) h (new_last x e ad)

-- a name that is in neither is in neither with the other behind
lookup_behind : (x : List ℕ) (a : List ℕ × Tree) (ad : Attributes) → lookup x ad ≡ Nothing → same_name x a.0 ≡ false → lookup x (ad ++ a ∷ []) ≡ Nothing
lookup_behind x a [] h other = ap (λ b. cond b (Some a.1) Nothing) other
lookup_behind x a (c ∷ ad) h other = by (same_name x c.0) h (λ h. lookup_behind x a ad h other)
  where
    by : (b : Bool) → cond b (Some c.1) (lookup x ad) ≡ Nothing → (lookup x ad ≡ Nothing → lookup x (ad ++ a ∷ []) ≡ Nothing) → cond b (Some c.1) (lookup x (ad ++ a ∷ [])) ≡ Nothing
    by true h rest = h
    by false h rest = rest h

apart_behind : (rest : Attributes) (a : List ℕ × Tree) (ad : Attributes) → Apart a.0 rest → IsApart rest ad → IsApart rest (ad ++ a ∷ [])
unfolding Apart IsApart
apart_behind [] a ad apart is = tt
apart_behind (c ∷ rest) a ad apart is = (lookup_behind c.0 a ad is.0 apart.0, apart_behind rest a ad apart.1 is.1)

behind : (rest ad : Attributes) → Own rest → IsApart rest ad → with_attributes rest ad ≡ ad ++ rest
unfolding Own IsApart
behind [] ad own is = sym (append-nil ad)
behind (a ∷ rest) ad own is =
    ap (with_attributes rest) (new_last a.0 a.1 ad is.0)
    ∙ behind rest (ad ++ a ∷ []) own.1.1 (apart_behind rest a ad own.1.0 is.1)
    ∙ append_assoc ad (a ∷ []) rest

free_of_pool : (rest : Attributes) (m : ConfiguredMachine) (k : ℕ) → Own rest → IsApart rest (pool_attributes m k)
unfolding Own IsApart
free_of_pool [] m k own = tt
free_of_pool (a ∷ rest) m k own = (absent a.0 (pool_attributes m k) own.0, free_of_pool rest m k own.1.1)

pub ad_is : (m : ConfiguredMachine) (k : ℕ) → Own m.attrs → slot_ad m k ≡ pool_attributes m k ++ m.attrs
ad_is m k own = behind m.attrs (pool_attributes m k) own (free_of_pool m.attrs m k own)
