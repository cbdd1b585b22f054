-- Requests attribute by attribute.
use Rattle.std.proofs.Common.{◌≡◌, ◌↔◌, ℕ, zero, suc, ◌<◌, Bool, true, false, not, ◌||◌, cond, List, [], ◌∷◌, length, Option, Some, None, slice_get, IsTrue, refl, ap, sym, ◌∙◌, arith}
use Rattle.std.specs.List.{list_any}
use Rattle.ad_value.specs.Names.{same_name}
use Rattle.ad_value.specs.Groups.{names_beside_request}
use Rattle.ad_tree.specs.Tree.{Tree}
use Rattle.ad_tree.specs.Ad.{Attributes, lookup, AreDistinct}
use Rattle.ad_tree.specs.NameLaws.{same_name_equivalence}
use Rattle.queue_tx.specs.Requests.{is_asked, SameRequest, AsksWithin, AgreesAt}

-- ---- names that are the same

any_alike : (a b : List ℕ) → same_name a b ≡ true → (names : List (List ℕ)) → list_any (same_name a) names ≡ list_any (same_name b) names
any_alike a b h [] = refl
any_alike a b h (n ∷ names) = λ i. same_name_equivalence.congr a b n h i || any_alike a b h names i

pub asked_alike : (a b : List ℕ) → same_name a b ≡ true → is_asked a ≡ is_asked b
asked_alike a b h = ap not (any_alike a b h names_beside_request)

pub lookup_alike : (a b : List ℕ) → same_name a b ≡ true → (ad : Attributes) → lookup a ad ≡ lookup b ad
lookup_alike a b h [] = refl
lookup_alike a b h (x ∷ ad) = λ i. cond (same_name_equivalence.congr a b x.0 h i) (Some x.1) (lookup_alike a b h ad i)

-- ---- within, place by place

pub within_from_places : (a b : Attributes) → ((k : ℕ) → k < length a → AgreesAt b (slice_get a k)) → AsksWithin a b
within_from_places [] b h name e asked found = cc
within_from_places (x ∷ a) b h name e asked found = by (same_name name x.0) refl found (within_from_places a b (λ k l. h (suc k) (omega arith)) name e asked)
  where
    by : (t : Bool) → same_name name x.0 ≡ t → cond t (Some x.1) (lookup name a) ≡ Some e → (lookup name a ≡ Some e → lookup name b ≡ Some e) → lookup name b ≡ Some e
    by true same found rest = lookup_alike name x.0 same b ∙ h 0 (omega arith) (sym (asked_alike name x.0 same) ∙ asked) ∙ found
    by false same found rest = rest found

behind_first : (x : List ℕ × Tree) (a b : Attributes) → AreDistinct (x ∷ a) → AsksWithin (x ∷ a) b → AsksWithin a b
behind_first x a b d w name e asked found = w name e asked (by (same_name name x.0) refl)
  where
    by : (t : Bool) → same_name name x.0 ≡ t → cond t (Some x.1) (lookup name a) ≡ Some e
    by true same = let clash = sym d.0 ∙ sym (lookup_alike name x.0 same a) ∙ found in cc
    by false same = found

pub places_from_within : (a b : Attributes) → AreDistinct a → AsksWithin a b → (k : ℕ) → AgreesAt b (slice_get a k)
places_from_within [] b d w k = tt
places_from_within (x ∷ a) b d w zero = λ asked. w x.0 x.1 asked (ap (λ t. cond t (Some x.1) (lookup x.0 a)) (same_name_equivalence.refl x.0))
places_from_within (x ∷ a) b d w (suc k) = places_from_within a b d.1 (behind_first x a b d w) k

-- ---- one request is within the other, and the other in it

pub same_from_within : (a b : Attributes) → AsksWithin a b → AsksWithin b a → SameRequest a b
same_from_within a b w v name asked = by (lookup name a) refl (lookup name b) refl
  where
    by : (o : Option Tree) → lookup name a ≡ o → (p : Option Tree) → lookup name b ≡ p → lookup name a ≡ lookup name b
    by (Some e) is p other = is ∙ sym (w name e asked is)
    by None is None other = is ∙ sym other
    by None is (Some e) other = v name e asked other ∙ sym other

pub within_from_same : (a b : Attributes) → SameRequest a b → AsksWithin a b × AsksWithin b a
within_from_same a b s = (λ name e asked found. sym (s name asked) ∙ found, λ name e asked found. s name asked ∙ found)

pub implies_is : (a h : Bool) (P : Type 0) → (IsTrue h ↔ P) → IsTrue (not a || h) ↔ (a ≡ true → P)
implies_is true h P is = (λ t asked. is.0 t, λ f. is.1 (f refl))
implies_is false h P is = (λ t asked. cc, λ f. refl)
