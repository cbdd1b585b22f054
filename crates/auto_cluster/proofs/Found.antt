-- Where parts stand by their digests, one attribute and one part more.
use Rattle.std.proofs.Common.{◌≡◌, ℕ, false, zero, suc, ◌+◌, ◌%◌, ◌^◌, ◌<◌, ◌≤◌, List, [], ◌∷◌, ◌++◌, length, get_or, take, slice_get, Option, Some, None, Vec, refl, ap, sym, ◌∙◌, subst, inl, inr}
use Rattle.std.specs.Prelude.{◌≢◌, ◌⊎◌, ◌↔◌, Bool, IsTrue, sum_by, Contains, MatchOption}
use Rattle.std.specs.Borrow.{Bor}
use Rattle.std.specs.Slice.{IsItemAt}
use Rattle.std.specs.List.{All}
use Rattle.std.specs.Option.{option_map_or}
use Rattle.std.specs.HashMap.{HashMap}
use Rattle.std.proofs.Math.Nat.{mod-add-mod}
use Rattle.std.proofs.lemmas.Bool.{true≢false}
use Rattle.std.proofs.lemmas.Option.{slice_get-get_or, slice_get_past}
use Rattle.std.proofs.lemmas.List.{take_all, take_more}
use Rattle.std.proofs.lemmas.List.Sums.{sum_by_push}
use Rattle.ad_value.specs.Content.{undefined}
use Rattle.ad_tree.specs.Tree.{Tree, literal}
use Rattle.ad_tree.specs.Ad.{Attributes}
use Rattle.auto_cluster.specs.Finding.{digest_in, part_digest, places_under, AreFoundBy}
use Rattle.auto_cluster.proofs.Members.{some_is}

-- ---- the digest, attribute by attribute

none : List ℕ × Tree
none = ([], literal undefined)

pub digest_step : (part : Attributes) (i : ℕ) → i < length part
    → (part_digest (take i part) + option_map_or digest_in (slice_get part i) 0) % 2 ^ 64 ≡ part_digest (take (i + 1) part)
digest_step part i less =
    ap (λ o. (part_digest (take i part) + option_map_or digest_in o 0) % 2 ^ 64) (slice_get-get_or part i none less)
    ∙ mod-add-mod (sum_by digest_in (take i part)) (2 ^ 64) (digest_in (get_or part i none))
    ∙ ap (λ n. n % 2 ^ 64) (sym (ap (sum_by digest_in) (take_more part i none less) ∙ sum_by_push digest_in (take i part) (get_or part i none)))

pub digest_all : (part : Attributes) (i : ℕ) → length part ≤ i → part_digest (take i part) ≡ part_digest part
digest_all part i over = ap part_digest (take_all i part over)

pub ruleset steps = (digest_step, digest_all)

-- ---- the places

-- what stands at a place of a list with one part more
stands : (parts : List Attributes) (part other : Attributes) (i : ℕ) → slice_get (parts ++ part ∷ []) i ≡ Some other
    → (slice_get parts i ≡ Some other) ⊎ ((i ≡ length parts) × (part ≡ other))
stands [] part other zero at = inr (refl, some_is at)
stands [] part other (suc i) at = inl at
stands (p ∷ parts) part other zero at = inl at
stands (p ∷ parts) part other (suc i) at = elim (stands parts part other i at) [ inl h ↦ inl h | inr h ↦ inr (ap (λ n. suc n) h.0, h.1) ]

-- where there are no parts yet
pub none_found : {A S : Type 0} (places : HashMap ℕ (Vec ℕ A) S) (parts : List Attributes) → parts ≡ [] → AreFoundBy places parts
none_found places parts none = subst (AreFoundBy places) (sym none) (λ i part at. let nothing : None ≡ Some part = at in cc)

pub found_more : {A S : Type 0} (old new : HashMap ℕ (Vec ℕ A) S) (parts : List Attributes) (part : Attributes) → AreFoundBy old parts
    → ((d i : ℕ) → Contains (places_under old d) i → Contains (places_under new d) i)
    → Contains (places_under new (part_digest part)) (length parts) → AreFoundBy new (parts ++ part ∷ [])
found_more old new parts part found kept put i other at = elim (stands parts part other i at) [
  | inl h ↦ kept (part_digest other) i (found i other h)
  | inr h ↦ subst (λ p. Contains (places_under new (part_digest p)) i) h.1 (subst (Contains (places_under new (part_digest part))) (sym h.0) put)
]

-- where it stands at no place of its digest, it stands at none
pub nowhere : {A S : Type 0} (places : HashMap ℕ (Vec ℕ A) S) (parts : List Attributes) (part : Attributes) → AreFoundBy places parts
    → All (λ i. slice_get parts i ≢ Some part) (places_under places (part_digest part)) → All (λ p. p ≢ part) parts
nowhere places parts part found none_at k d less same =
    let at : slice_get parts k ≡ Some part = slice_get-get_or parts k d less ∙ ap (λ p. Some p) same in
    let here = found k part at in
    none_at here.0 k here.1 (ap (slice_get parts) here.2 ∙ at)

pub answered : {A S : Type 0} (places : HashMap ℕ (Vec ℕ A) S) (parts given seen : List Attributes) (part : Attributes) (digest : ℕ) (list : List ℕ) (o : Option ℕ) → AreFoundBy places parts
    → given ≡ parts → parts ≡ seen → digest ≡ part_digest part → list ≡ places_under places digest
    → MatchOption o (All (λ i. slice_get given i ≢ Some part) list) (λ i. slice_get given i ≡ Some part)
    → MatchOption o (All (λ p. p ≢ part) seen) (λ i. slice_get seen i ≡ Some part)
answered places parts given seen part digest list None found same whole digested listed none_at =
    subst (λ (ps : List Attributes). All (λ (p : Attributes). p ≢ part) ps) whole
    (nowhere places parts part found
    (subst (λ (is : List ℕ). All (λ i. slice_get parts i ≢ Some part) is) (listed ∙ ap (places_under places) digested)
    (subst (λ (ps : List Attributes). All (λ i. slice_get ps i ≢ Some part) list) same none_at)))
answered places parts given seen part digest list (Some i) found same whole digested listed at = ap (λ ps. slice_get ps i) (sym (same ∙ whole)) ∙ at

-- what a slice lends at a place stands there
pub lent_at : {A : Type 0} (xs : List A) (i : ℕ) (o : Option (Bor A)) (x : Bor A) → IsItemAt xs i o → o ≡ Some x → slice_get xs i ≡ Some x.now
lent_at xs i o x is e =
    let at : IsItemAt xs i (Some x) = subst (IsItemAt xs i) e is in
    slice_get-get_or xs i x.now at.3.0 ∙ ap (λ y. Some y) (sym at.1)

-- past the end stands nothing
pub nothing_there : {A : Type 0} (xs : List A) (i : ℕ) (y : A) → length xs ≤ i → (IsTrue false ↔ (slice_get xs i ≡ Some y))
nothing_there xs i y past = (λ t. absurd (true≢false (sym t)), λ at. let nothing : None ≡ Some y = sym (slice_get_past xs i past) ∙ at in cc)

pub stands_by : {A : Type 0} (b : Bool) (o : Option A) (x y : A) → o ≡ Some x → (IsTrue b ↔ (x ≡ y)) → (IsTrue b ↔ (o ≡ Some y))
stands_by b o x y e h = (λ t. e ∙ ap (λ z. Some z) (h.0 t), λ s. h.1 (some_is (sym e ∙ s)))

-- ---- one place more under a digest

pub place_at : {A S : Type 0} (places : HashMap ℕ (Vec ℕ A) S) (d e i j : ℕ) → d ≡ e → i ≡ j → Contains (places_under places d) i → Contains (places_under places e) j
place_at places d e i j same place h = subst (λ k. Contains (places_under places e) k) place (subst (λ k. Contains (places_under places k) i) same h)
