-- A map from digests to places in which more places stand.
use Rattle.std.proofs.Common.{◌≡◌, ℕ, ◌<◌, List, [], ◌∷◌, ◌++◌, Bool, true, false, cond, Option, Some, None, Vec, refl, ap, sym, ◌∙◌, subst, arith}
use Rattle.std.specs.Prelude.{nat_eq, Contains}
use Rattle.std.specs.Option.{option_map_or, IsSome}
use Rattle.std.specs.HashMap.{HashMap, get, Updates, WritesThrough}
use Rattle.std.specs.Map.{lookup}
use Rattle.std.proofs.lemmas.Bool.{eqb-true}
use Rattle.std.proofs.lemmas.List.Elements.{Contains-push, Contains-append_left}
use Rattle.ad_tree.specs.Ad.{Attributes}
use Rattle.auto_cluster.specs.Finding.{part_digest, places_under, AreFoundBy}

pub found_still : {A S : Type 0} (old new : HashMap ℕ (Vec ℕ A) S) (parts : List Attributes) → AreFoundBy old parts
    → ((d i : ℕ) → Contains (places_under old d) i → Contains (places_under new d) i) → AreFoundBy new parts
found_still old new parts found kept i part at = kept (part_digest part) i (found i part at)

-- a list that a place was pushed to
pub stands_under : {A S : Type 0} (places : HashMap ℕ (Vec ℕ A) S) (digest place : ℕ) (list : Vec ℕ A) (before : List ℕ) → get nat_eq places digest ≡ Some list → list.items ≡ before ++ place ∷ []
    → Contains (places_under places digest) place
stands_under {A = A} places digest place list before at pushed =
    subst (λ (o : Option (Vec ℕ A)). Contains (option_map_or (λ v. v.items) o []) place) (sym at) (subst (λ is. Contains is place) (sym pushed) (Contains-push before place))

-- what stands under each digest, where one digest gets a list that has what its old one had
others_stay : {A S : Type 0} (old new : HashMap ℕ (Vec ℕ A) S) (digest : ℕ) (list : Vec ℕ A) → Updates nat_eq old new digest (Some list)
    → ((i : ℕ) → Contains (places_under old digest) i → Contains list.items i) → (d i : ℕ) → Contains (places_under old d) i → Contains (places_under new d) i
others_stay {A = A} old new digest list updates more d i has = by (nat_eq digest d) refl
  where
    in_list : Option (Vec ℕ A) → Type 0
    in_list o = Contains (option_map_or (λ (v : Vec ℕ A). v.items) o []) i

    by : (b : Bool) → nat_eq digest d ≡ b → in_list (get nat_eq new d)
    by true same = subst in_list (sym (updates.0 d ∙ ap (λ b. cond b (Some list) (get nat_eq old d)) same)) (more i (subst (λ k. Contains (places_under old k) i) (sym (eqb-true digest d same)) has))
    by false apart = subst in_list (sym (updates.2 d apart)) has

pub lent_others : {A S : Type 0} (old new : HashMap ℕ (Vec ℕ A) S) (digest : ℕ) (before after : Vec ℕ A) (more : List ℕ) → WritesThrough nat_eq (nat_eq digest) old after new
    → Some before ≡ get nat_eq old digest → after.items ≡ before.items ++ more → (d i : ℕ) → Contains (places_under old d) i → Contains (places_under new d) i
lent_others {A = A} old new digest before after more writes at pushed =
    others_stay old new digest after (writes.3 (subst IsSome at refl))
    (λ i has. subst (λ is. Contains is i) (sym pushed) (Contains-append_left before.items more i (subst (λ (o : Option (Vec ℕ A)). Contains (option_map_or (λ v. v.items) o []) i) (sym at) has)))

pub lent_put : {A S : Type 0} (old new : HashMap ℕ (Vec ℕ A) S) (digest place : ℕ) (before after : Vec ℕ A) → WritesThrough nat_eq (nat_eq digest) old after new
    → Some before ≡ get nat_eq old digest → after.items ≡ before.items ++ place ∷ [] → Contains (places_under new digest) place
lent_put old new digest place before after writes at pushed = stands_under new digest place after before.items ((writes.3 (subst IsSome at refl)).1) pushed

pub begun_others : {A S : Type 0} (old mid new : HashMap ℕ (Vec ℕ A) S) (digest : ℕ) (list : Vec ℕ A) → mid ≡ old → None ≡ get nat_eq old digest
    → Updates nat_eq mid new digest (Some list) → (d i : ℕ) → Contains (places_under old d) i → Contains (places_under new d) i
begun_others {A = A} {S = S} old mid new digest list same none updates =
    others_stay old new digest list (subst (λ (m : HashMap ℕ (Vec ℕ A) S). Updates nat_eq m new digest (Some list)) same updates)
    (λ i has. absurd (nothing i (subst (λ (o : Option (Vec ℕ A)). Contains (option_map_or (λ v. v.items) o []) i) (sym none) has)))
  where
    nothing : (i : ℕ) → Contains [] i → ⊥
    nothing i has = let less : has.0 < 0 = has.1 in omega arith

pub same_entries : {A S : Type 0} (old mid new : HashMap ℕ (Vec ℕ A) S) → mid ≡ old → new.entries ≡ mid.entries → (d i : ℕ) → Contains (places_under old d) i → Contains (places_under new d) i
same_entries {A = A} {S = S} old mid new same entries d i has =
    subst (λ (es : List (ℕ × Vec ℕ A)). Contains (option_map_or (λ (v : Vec ℕ A). v.items) (lookup (nat_eq d) es) []) i)
    (sym (entries ∙ ap (λ (m : HashMap ℕ (Vec ℕ A) S). m.entries) same)) has
