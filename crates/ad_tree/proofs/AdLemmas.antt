-- Ads as lists: what a change leaves, and how the entries of a table show them.
use Rattle.std.proofs.Common.{◌≡◌, ℕ, suc, ◌+◌, ◌<◌, ◌≤◌, ◌==◌, slice_get, Bool, true, false, true≢false, cond, List, [], ◌∷◌, ◌++◌, length, map, Option, Some, None, is_some, IsTrue, refl, ap, sym, ◌∙◌, subst, arith, not, ⊎_elim, IsSome, position}
use Rattle.std.proofs.lemmas.Bool.{cases_lt, eqb-true, eqb-false}
use Rattle.std.specs.Prelude.{unwrap_or}
use Rattle.std.specs.Borrow.{Bor}
use Rattle.std.specs.Option.{option_map, option_copied}
use Rattle.std.specs.Map as table
use Rattle.indexmap.specs.IndexMap.{insert_entry, set_value_at}
use Rattle.indexmap.proofs.MapLemmas.{insert_entry-first, Found-position}
use Rattle.ad_tree.specs.declared.tree.Expr.{Expr}
use Rattle.ad_tree.specs.Tree.{Tree, tree}
use Rattle.ad_value.specs.Names.{same_name}
use Rattle.ad_tree.specs.NameLaws.{same_name_equivalence}
use Rattle.ad_tree.specs.Ad.{Attributes, named_trees, names, lookup, with_attribute, without, AreDistinct}

-- ---- how a table's entries show an ad
pub lookup-named_trees : (x : List ℕ) (es : List (List ℕ × Expr)) → lookup x (named_trees es) ≡ option_map tree (table.lookup (same_name x) es)
lookup-named_trees x [] = refl
lookup-named_trees x (e ∷ es) = by (same_name x e.0) (lookup-named_trees x es)
  where
    by : (b : Bool) → lookup x (named_trees es) ≡ option_map tree (table.lookup (same_name x) es) → cond b (Some (tree e.1)) (lookup x (named_trees es)) ≡ option_map tree (cond b (Some e.1) (table.lookup (same_name x) es))
    by true rest = refl
    by false rest = rest

pub named_trees-insert_entry : (es : List (List ℕ × Expr)) (x : List ℕ) (e : Expr) → named_trees (insert_entry same_name es x e) ≡ with_attribute x (tree e) (named_trees es)
named_trees-insert_entry [] x e = refl
named_trees-insert_entry (a ∷ es) x e = by (same_name x a.0) (named_trees-insert_entry es x e)
  where
    by : (b : Bool) → named_trees (insert_entry same_name es x e) ≡ with_attribute x (tree e) (named_trees es) → named_trees (cond b ((a.0, e) ∷ es) (a ∷ insert_entry same_name es x e)) ≡ cond b ((a.0, tree e) ∷ named_trees es) ((a.0, tree a.1) ∷ with_attribute x (tree e) (named_trees es))
    by true rest = refl
    by false rest = ap (λ l. (a.0, tree a.1) ∷ l) rest

-- a write at the place of a name
pub named_trees-set_value_at : (x : List ℕ) (e : Expr) (es : List (List ℕ × Expr)) (i : ℕ) → position (same_name x) (map (λ a. a.0) es) ≡ Some i → named_trees (set_value_at es i e) ≡ with_attribute x (tree e) (named_trees es)
named_trees-set_value_at x e es i at =
    sym (ap named_trees (insert_entry-first same_name x e es i (Found-position (same_name x) es i at).first)) ∙ named_trees-insert_entry es x e

pub names-named_trees : (es : List (List ℕ × Expr)) → names (named_trees es) ≡ map (λ e. e.0) es
names-named_trees [] = refl
names-named_trees (e ∷ es) = ap (λ l. e.0 ∷ l) (names-named_trees es)

pub option_map-copied : (o : Option (Bor Expr)) → option_map (λ e. tree e.now) o ≡ option_map tree (option_copied o)
option_map-copied None = refl
option_map-copied (Some e) = refl

pub is_some-option_map : {A B : Type 0} (f : A → B) (o : Option A) → is_some (option_map f o) ≡ is_some o
is_some-option_map f None = refl
is_some-option_map f (Some x) = refl

-- ---- a look-up that finds nothing
pub none_at : {A : Type 0} (b : Bool) (e : A) (o : Option A) → cond b (Some e) o ≡ None → (b ≡ false) × (o ≡ None)
none_at true e o h = absurd (some_is_not_none h)
  where
    some_is_not_none : {A : Type 0} {e : A} → Some e ≡ None → ⊥
    some_is_not_none h = cc
none_at false e o h = (refl, h)

at_none : {A : Type 0} (b : Bool) (e : A) (o : Option A) → b ≡ false → o ≡ None → cond b (Some e) o ≡ None
at_none b e o p q = ap (λ c. cond c (Some e) o) p ∙ q

pub other_way : (x y : List ℕ) → same_name x y ≡ false → same_name y x ≡ false
other_way x y h = same_name_equivalence.symm y x ∙ h

lookup-with_attribute-other : (x y : List ℕ) (e : Tree) (ad : Attributes) → same_name x y ≡ false → lookup y ad ≡ None → lookup y (with_attribute x e ad) ≡ None
lookup-with_attribute-other x y e [] h none = at_none (same_name y x) e None (other_way x y h) refl
lookup-with_attribute-other x y e (a ∷ ad) h none = by (same_name x a.0) (lookup-with_attribute-other x y e ad h)
  where
    parts : (same_name y a.0 ≡ false) × (lookup y ad ≡ None)
    parts = none_at (same_name y a.0) a.1 (lookup y ad) none

    by : (b : Bool) → (lookup y ad ≡ None → lookup y (with_attribute x e ad) ≡ None) → lookup y (cond b ((a.0, e) ∷ ad) (a ∷ with_attribute x e ad)) ≡ None
    by true rest = at_none (same_name y a.0) e (lookup y ad) parts.0 parts.1
    by false rest = at_none (same_name y a.0) a.1 (lookup y (with_attribute x e ad)) parts.0 (rest parts.1)

lookup-without : (x y : List ℕ) (ad : Attributes) → lookup y ad ≡ None → lookup y (without x ad) ≡ None
lookup-without x y [] none = refl
lookup-without x y (a ∷ ad) none = by (same_name x a.0) (lookup-without x y ad)
  where
    parts : (same_name y a.0 ≡ false) × (lookup y ad ≡ None)
    parts = none_at (same_name y a.0) a.1 (lookup y ad) none

    by : (b : Bool) → (lookup y ad ≡ None → lookup y (without x ad) ≡ None) → lookup y (cond b ad (a ∷ without x ad)) ≡ None
    by true rest = parts.1
    by false rest = at_none (same_name y a.0) a.1 (lookup y (without x ad)) parts.0 (rest parts.1)

-- ---- names stay distinct
pub AreDistinct-with_attribute : (x : List ℕ) (e : Tree) (ad : Attributes) → AreDistinct ad → AreDistinct (with_attribute x e ad)
AreDistinct-with_attribute x e [] h = (refl, tt)
AreDistinct-with_attribute x e (a ∷ ad) h = by (same_name x a.0) refl (AreDistinct-with_attribute x e ad h.1)
  where
    by : (b : Bool) → same_name x a.0 ≡ b → AreDistinct (with_attribute x e ad) → AreDistinct (cond b ((a.0, e) ∷ ad) (a ∷ with_attribute x e ad))
    by true p rest = (h.0, h.1)
    by false p rest = (lookup-with_attribute-other x a.0 e ad p h.0, rest)

pub AreDistinct-without : (x : List ℕ) (ad : Attributes) → AreDistinct ad → AreDistinct (without x ad)
AreDistinct-without x [] h = tt
AreDistinct-without x (a ∷ ad) h = by (same_name x a.0) (AreDistinct-without x ad h.1)
  where
    by : (b : Bool) → AreDistinct (without x ad) → AreDistinct (cond b ad (a ∷ without x ad))
    by true rest = h.1
    by false rest = (lookup-without x a.0 ad h.0, rest)

-- ---- how long an ad is
pub length-with_attribute-le : (x : List ℕ) (e : Tree) (ad : Attributes) → length (with_attribute x e ad) ≤ length ad + 1
length-with_attribute-le x e [] = omega arith
length-with_attribute-le x e (a ∷ ad) = by (same_name x a.0) (length-with_attribute-le x e ad)
  where
    by : (b : Bool) → length (with_attribute x e ad) ≤ length ad + 1 → length (cond b ((a.0, e) ∷ ad) (a ∷ with_attribute x e ad)) ≤ length (a ∷ ad) + 1
    by true rest = omega arith
    by false rest = omega arith

pub length-with_attribute-there : (x : List ℕ) (e : Tree) (ad : Attributes) → (lookup x ad ≡ None → ⊥) → length (with_attribute x e ad) ≡ length ad
length-with_attribute-there x e [] there = absurd (there refl)
length-with_attribute-there x e (a ∷ ad) there = by (same_name x a.0) refl (length-with_attribute-there x e ad)
  where
    by : (b : Bool) → same_name x a.0 ≡ b → ((lookup x ad ≡ None → ⊥) → length (with_attribute x e ad) ≡ length ad) → length (cond b ((a.0, e) ∷ ad) (a ∷ with_attribute x e ad)) ≡ length (a ∷ ad)
    by true p rest = refl
    by false p rest = ap (λ n. suc n) (rest (λ none. there (at_none (same_name x a.0) a.1 (lookup x ad) p none)))

pub length-without-le : (x : List ℕ) (ad : Attributes) → length (without x ad) ≤ length ad
length-without-le x [] = omega arith
length-without-le x (a ∷ ad) = by (same_name x a.0) (length-without-le x ad)
  where
    by : (b : Bool) → length (without x ad) ≤ length ad → length (cond b ad (a ∷ without x ad)) ≤ length (a ∷ ad)
    by true rest = omega arith
    by false rest = omega arith

pub length-named_trees : (es : List (List ℕ × Expr)) → length (named_trees es) ≡ length es
length-named_trees [] = refl
length-named_trees (e ∷ es) = ap (λ n. suc n) (length-named_trees es)

-- ---- a new name comes last
pub with_attribute-new : (x : List ℕ) (e : Tree) (ad : Attributes) → lookup x ad ≡ None → with_attribute x e ad ≡ ad ++ (x, e) ∷ []
with_attribute-new x e [] none = refl
with_attribute-new x e (a ∷ ad) none =
    ap (λ b. cond b ((a.0, e) ∷ ad) (a ∷ with_attribute x e ad)) parts.0 ∙ ap (λ l. a ∷ l) (with_attribute-new x e ad parts.1)
  where
    parts : (same_name x a.0 ≡ false) × (lookup x ad ≡ None)
    parts = none_at (same_name x a.0) a.1 (lookup x ad) none

absent_at_next : (y : List ℕ) (ad : Attributes) (a : List ℕ × Tree) (more : Attributes) → lookup y (ad ++ a ∷ more) ≡ None → same_name y a.0 ≡ false
absent_at_next y [] a more none = (none_at (same_name y a.0) a.1 (lookup y more) none).0
absent_at_next y (b ∷ ad) a more none = absent_at_next y ad a more (none_at (same_name y b.0) b.1 (lookup y (ad ++ a ∷ more)) none).1

-- a name of an ad is not met before its place
pub lookup-before : (ad : Attributes) (a : List ℕ × Tree) (more : Attributes) → AreDistinct (ad ++ a ∷ more) → lookup a.0 ad ≡ None
lookup-before [] a more h = refl
lookup-before (b ∷ ad) a more h = at_none (same_name a.0 b.0) b.1 (lookup a.0 ad) (other_way b.0 a.0 (absent_at_next b.0 ad a more h.0)) (lookup-before ad a more h.1)

-- an ad that takes one attribute more, where it is not full for its name, has no more than 256
pub length-with_attribute-within : (x : List ℕ) (e : Tree) (ad : Attributes) → ((lookup x ad ≡ None) × (length ad ≡ 256) → ⊥) → length ad ≤ 256 → length (with_attribute x e ad) ≤ 256
length-with_attribute-within x e ad room within = ⊎_elim (λ less. omega (arith, length-with_attribute-le x e ad)) full (cases_lt (length ad) 256)
  where
    full : 256 ≤ length ad → length (with_attribute x e ad) ≤ 256
    full h = omega (arith, length-with_attribute-there x e ad (λ none. room (none, omega arith)))

-- a test that says whether there is a value
pub IsSome-from : {A : Type 0} (b : Bool) (o : Option A) → b ≡ is_some o → (IsTrue b → IsSome o) × (IsSome o → IsTrue b)
IsSome-from b o e = (λ h. sym e ∙ h, λ h. e ∙ h)

-- a test that says whether there is none
pub None-from : {A : Type 0} (b : Bool) (o : Option A) → b ≡ is_some o → (IsTrue (not b) → o ≡ None) × (o ≡ None → IsTrue (not b))
None-from b None e = (λ h. refl, λ h. ap not e)
None-from b (Some x) e = (λ h. absurd (true≢false (sym h ∙ ap not e)), λ h. absurd (true≢false (ap is_some h)))

-- what holds below a place and at it holds below the next
pub below_more : {P : ℕ → Type 0} (n : ℕ) → ((k : ℕ) → k < n → P k) → P n → (k : ℕ) → k < n + 1 → P k
below_more {P} n below here k less = by_test (k == n) refl
  where
    by_test : (b : Bool) → (k == n) ≡ b → P k
    by_test true is = subst P (sym (eqb-true k n is)) here
    by_test false is = below k (omega (arith, eqb-false k n is))

-- lists of one length with the same at each place are the same
pub same_lists : {A : Type 0} (xs ys : List A) → length xs ≡ length ys → ((k : ℕ) → k < length xs → slice_get xs k ≡ slice_get ys k) → xs ≡ ys
same_lists [] [] long at = refl
same_lists [] (y ∷ ys) long at = absurd (omega arith)
same_lists (x ∷ xs) [] long at = absurd (omega arith)
same_lists (x ∷ xs) (y ∷ ys) long at =
    let first : x ≡ y = ap (λ o. unwrap_or o x) (at 0 (omega arith)) in
    ap (λ z. z ∷ xs) first ∙ ap (λ zs. y ∷ zs) (same_lists xs ys (omega arith) (λ k less. at (suc k) (omega arith)))
