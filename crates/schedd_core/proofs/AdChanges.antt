-- What an ad says after one of its attributes was set or taken away.
use Rattle.std.proofs.Common.{◌≡◌, ℕ, Bool, true, false, cond, not, ◌||◌, List, [], ◌∷◌, Some, None, refl, ap, sym, ◌∙◌}
use Rattle.std.specs.List.{list_any}
use Rattle.ad_value.specs.Names.{same_name}
use Rattle.ad_value.specs.Groups.{pool_names}
use Rattle.ad_tree.specs.Ad.{Attributes, lookup, with_attribute, without, AreDistinct}
use Rattle.ad_tree.specs.NameLaws.{same_name_equivalence}
use Rattle.ad_tree.specs.Tree.{Tree}
use Rattle.pool_view.specs.Ads.{core_of}

-- one name under two spellings is apart from a third
pub apart : (x y z : List ℕ) → same_name y x ≡ false → same_name x z ≡ true → same_name y z ≡ false
apart x y z h p = same_name_equivalence.symm y z ∙ sym (same_name_equivalence.congr x z y p) ∙ same_name_equivalence.symm x y ∙ h

pub set_elsewhere : (x y : List ℕ) (e : Tree) (ad : Attributes) → same_name y x ≡ false → lookup y (with_attribute x e ad) ≡ lookup y ad
set_elsewhere x y e [] h = ap (λ b. cond b (Some e) None) h
set_elsewhere x y e (a ∷ ad) h = by (same_name x a.0) refl (set_elsewhere x y e ad h)
  where
    by : (b : Bool) → same_name x a.0 ≡ b → lookup y (with_attribute x e ad) ≡ lookup y ad → lookup y (cond b ((a.0, e) ∷ ad) (a ∷ with_attribute x e ad)) ≡ cond (same_name y a.0) (Some a.1) (lookup y ad)
    by true p rest = ap (λ b. cond b (Some e) (lookup y ad)) (apart x y a.0 h p) ∙ sym (ap (λ b. cond b (Some a.1) (lookup y ad)) (apart x y a.0 h p))
    by false p rest = ap (λ o. cond (same_name y a.0) (Some a.1) o) rest

pub set_there : (x y : List ℕ) (e : Tree) (ad : Attributes) → same_name y x ≡ true → lookup y (with_attribute x e ad) ≡ Some e
set_there x y e [] h = ap (λ b. cond b (Some e) None) h
set_there x y e (a ∷ ad) h = by (same_name x a.0) refl (set_there x y e ad h)
  where
    by : (b : Bool) → same_name x a.0 ≡ b → lookup y (with_attribute x e ad) ≡ Some e → lookup y (cond b ((a.0, e) ∷ ad) (a ∷ with_attribute x e ad)) ≡ Some e
    by true p rest = ap (λ b. cond b (Some e) (lookup y ad)) (same_name_equivalence.congr y x a.0 h ∙ p)
    by false p rest = ap (λ b. cond b (Some a.1) (lookup y (with_attribute x e ad))) (same_name_equivalence.congr y x a.0 h ∙ p) ∙ rest

pub removed_elsewhere : (x y : List ℕ) (ad : Attributes) → same_name y x ≡ false → lookup y (without x ad) ≡ lookup y ad
removed_elsewhere x y [] h = refl
removed_elsewhere x y (a ∷ ad) h = by (same_name x a.0) refl (removed_elsewhere x y ad h)
  where
    by : (b : Bool) → same_name x a.0 ≡ b → lookup y (without x ad) ≡ lookup y ad → lookup y (cond b ad (a ∷ without x ad)) ≡ cond (same_name y a.0) (Some a.1) (lookup y ad)
    by true p rest = sym (ap (λ b. cond b (Some a.1) (lookup y ad)) (apart x y a.0 h p))
    by false p rest = ap (λ o. cond (same_name y a.0) (Some a.1) o) rest

-- a name of which there is one is there no more
pub removed_there : (x y : List ℕ) (ad : Attributes) → same_name y x ≡ true → AreDistinct ad → lookup y (without x ad) ≡ None
removed_there x y [] h d = refl
removed_there x y (a ∷ ad) h d = by (same_name x a.0) refl (removed_there x y ad h d.1)
  where
    -- a look-up under another spelling
    spelled : (u v : List ℕ) (xs : Attributes) → same_name u v ≡ true → lookup u xs ≡ lookup v xs
    spelled u v [] is = refl
    spelled u v (b ∷ xs) is = ap (λ t. cond t (Some b.1) (lookup u xs)) (same_name_equivalence.congr u v b.0 is) ∙ ap (λ o. cond (same_name v b.0) (Some b.1) o) (spelled u v xs is)

    by : (b : Bool) → same_name x a.0 ≡ b → lookup y (without x ad) ≡ None → lookup y (cond b ad (a ∷ without x ad)) ≡ None
    by true p rest = spelled y a.0 ad (same_name_equivalence.congr y x a.0 h ∙ p) ∙ d.0
    by false p rest = ap (λ b. cond b (Some a.1) (lookup y (without x ad))) (same_name_equivalence.congr y x a.0 h ∙ p) ∙ rest

-- ---- the core
abbrev pub is_pool_name : List ℕ → Bool
is_pool_name x = list_any (same_name x) pool_names

same_any : (u v : List ℕ) (ns : List (List ℕ)) → same_name u v ≡ true → list_any (same_name u) ns ≡ list_any (same_name v) ns
same_any u v [] is = refl
same_any u v (n ∷ ns) is = ap (λ b. b || list_any (same_name u) ns) (same_name_equivalence.congr u v n is) ∙ ap (λ b. same_name v n || b) (same_any u v ns is)

pub core_of_set : (x : List ℕ) (e : Tree) (ad : Attributes) → is_pool_name x ≡ true → core_of (with_attribute x e ad) ≡ core_of ad
core_of_set x e [] pool = ap (λ b. cond (not b) ((x, e) ∷ []) []) pool
core_of_set x e (a ∷ ad) pool = by (same_name x a.0) refl (core_of_set x e ad pool)
  where
    by : (b : Bool) → same_name x a.0 ≡ b → core_of (with_attribute x e ad) ≡ core_of ad → core_of (cond b ((a.0, e) ∷ ad) (a ∷ with_attribute x e ad)) ≡ core_of (a ∷ ad)
    by true p rest =
        let its : is_pool_name a.0 ≡ true = sym (same_any x a.0 pool_names p) ∙ pool in
        ap (λ b. cond (not b) ((a.0, e) ∷ core_of ad) (core_of ad)) its ∙ sym (ap (λ b. cond (not b) (a ∷ core_of ad) (core_of ad)) its)
    by false p rest = ap (λ l. cond (not (is_pool_name a.0)) (a ∷ l) l) rest

pub core_of_without : (x : List ℕ) (ad : Attributes) → is_pool_name x ≡ true → core_of (without x ad) ≡ core_of ad
core_of_without x [] pool = refl
core_of_without x (a ∷ ad) pool = by (same_name x a.0) refl (core_of_without x ad pool)
  where
    by : (b : Bool) → same_name x a.0 ≡ b → core_of (without x ad) ≡ core_of ad → core_of (cond b ad (a ∷ without x ad)) ≡ core_of (a ∷ ad)
    by true p rest =
        let its : is_pool_name a.0 ≡ true = sym (same_any x a.0 pool_names p) ∙ pool in
        sym (ap (λ b. cond (not b) (a ∷ core_of ad) (core_of ad)) its)
    by false p rest = ap (λ l. cond (not (is_pool_name a.0)) (a ∷ l) l) rest
