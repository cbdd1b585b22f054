-- The digest of a request: one attribute more at a time, and that ads which make the same request
-- have the same one.
use Rattle.std.proofs.Common.{◌≡◌, ℕ, ◌+◌, ◌%◌, ◌^◌, ◌<◌, ◌≤◌, Bool, true, false, cond, List, [], ◌∷◌, length, get_or, take, slice_get, Option, Some, None, refl, ap, sym, ◌∙◌, arith}
use Rattle.std.specs.Prelude.{sum_by}
use Rattle.std.specs.Option.{option_map_or}
use Rattle.std.proofs.Math.Nat.{mod-add-mod}
use Rattle.std.proofs.lemmas.Option.{slice_get-get_or}
use Rattle.std.proofs.lemmas.List.{take_all, take_more}
use Rattle.std.proofs.lemmas.List.Sums.{sum_by-cons, sum_by_push}
use Rattle.ad_value.specs.Content.{undefined}
use Rattle.ad_value.specs.Names.{same_name}
use Rattle.ad_tree.specs.Tree.{Tree, literal}
use Rattle.ad_tree.specs.Ad.{Attributes, lookup, without, AreDistinct}
use Rattle.ad_tree.proofs.AdLemmas.{AreDistinct-without}
use Rattle.ad_tree.specs.NameLaws.{same_name_equivalence}
use Rattle.ad_rows.specs.Digests.{attribute_digest}
use Rattle.ad_rows.proofs.Feeding.{same_have_one_digest}
use Rattle.queue_tx.specs.Requests.{is_asked, SameRequest}
use Rattle.queue_tx.specs.RequestDigests.{asked_digest, request_digest}
use Rattle.queue_tx.specs.Laws.{SameRequestsHaveOneDigest}
use Rattle.queue_tx.proofs.RequestLemmas.{asked_alike, lookup_alike}

-- ---- attribute by attribute

none : List ℕ × Tree
none = ([], literal undefined)

pub digest_step : (ad : Attributes) (i : ℕ) → i < length ad → (request_digest (take i ad) + option_map_or asked_digest (slice_get ad i) 0) % 2 ^ 64 ≡ request_digest (take (i + 1) ad)
digest_step ad i less =
    ap (λ o. (request_digest (take i ad) + option_map_or asked_digest o 0) % 2 ^ 64) (slice_get-get_or ad i none less)
    ∙ mod-add-mod (sum_by asked_digest (take i ad)) (2 ^ 64) (asked_digest (get_or ad i none))
    ∙ ap (λ n. n % 2 ^ 64) (sym (ap (sum_by asked_digest) (take_more ad i none less) ∙ sum_by_push asked_digest (take i ad) (get_or ad i none)))

pub digest_all : (ad : Attributes) (i : ℕ) → length ad ≤ i → request_digest (take i ad) ≡ request_digest ad
digest_all ad i over = ap request_digest (take_all i ad over)

pub ruleset steps = (digest_step, digest_all)

-- ---- an attribute taken out

found_digest : (x : List ℕ) (a : List ℕ × Tree) → is_asked x ≡ true → same_name x a.0 ≡ true → asked_digest a ≡ attribute_digest x a.1
found_digest x a asked same =
    ap (λ b. cond b (attribute_digest a.0 a.1) 0) (sym (asked_alike x a.0 same) ∙ asked)
    ∙ sym (same_have_one_digest x a.0 a.1 same)

taken_out : (x : List ℕ) (e : Tree) (ad : Attributes) → is_asked x ≡ true → lookup x ad ≡ Some e → sum_by asked_digest ad ≡ attribute_digest x e + sum_by asked_digest (without x ad)
taken_out x e [] asked found = cc
taken_out x e (a ∷ ad) asked found = by (same_name x a.0) refl found (taken_out x e ad asked)
  where
    by : (b : Bool) → same_name x a.0 ≡ b → cond b (Some a.1) (lookup x ad) ≡ Some e
        → (lookup x ad ≡ Some e → sum_by asked_digest ad ≡ attribute_digest x e + sum_by asked_digest (without x ad))
        → sum_by asked_digest (a ∷ ad) ≡ attribute_digest x e + sum_by asked_digest (cond b ad (a ∷ without x ad))
    by true same found rest =
        let value : a.1 ≡ e = cc in
        sum_by-cons asked_digest a ad
        ∙ ap (λ n. n + sum_by asked_digest ad) (found_digest x a asked same ∙ ap (attribute_digest x) value)
    by false same found rest =
        let behind = rest found in
        let here = sum_by-cons asked_digest a ad in
        let there = sum_by-cons asked_digest a (without x ad) in
        omega (arith, behind, here, there)

removed : (x : List ℕ) (ad : Attributes) → AreDistinct ad → lookup x (without x ad) ≡ None
removed x [] d = refl
removed x (a ∷ ad) d = by (same_name x a.0) refl (removed x ad d.1)
  where
    by : (b : Bool) → same_name x a.0 ≡ b → lookup x (without x ad) ≡ None → lookup x (cond b ad (a ∷ without x ad)) ≡ None
    by true same rest = lookup_alike x a.0 same ad ∙ d.0
    by false same rest = ap (λ b. cond b (Some a.1) (lookup x (without x ad))) same ∙ rest

left : (x y : List ℕ) (ad : Attributes) → same_name x y ≡ false → lookup y (without x ad) ≡ lookup y ad
left x y [] apart = refl
left x y (a ∷ ad) apart = by (same_name x a.0) refl (left x y ad apart)
  where
    other : same_name x a.0 ≡ true → same_name y a.0 ≡ false
    other same = same_name_equivalence.symm y a.0 ∙ sym (same_name_equivalence.congr x a.0 y same) ∙ apart

    by : (b : Bool) → same_name x a.0 ≡ b → lookup y (without x ad) ≡ lookup y ad → lookup y (cond b ad (a ∷ without x ad)) ≡ lookup y (a ∷ ad)
    by true same rest = sym (ap (λ b. cond b (Some a.1) (lookup y ad)) (other same))
    by false same rest = ap (λ o. cond (same_name y a.0) (Some a.1) o) rest

-- ---- nothing is asked

behind_none : (b : Bool) (e : Tree) (o : Option Tree) → cond b (Some e) o ≡ None → o ≡ None
behind_none true e o h = cc
behind_none false e o h = h

nothing_asked : (ad : Attributes) → ((name : List ℕ) → is_asked name ≡ true → lookup name ad ≡ None) → sum_by asked_digest ad ≡ 0
nothing_asked [] h = refl
nothing_asked (a ∷ ad) h = sum_by-cons asked_digest a ad ∙ here (is_asked a.0) refl ∙ nothing_asked ad (λ name asked. behind_none (same_name name a.0) a.1 (lookup name ad) (h name asked))
  where
    at_itself : lookup a.0 (a ∷ ad) ≡ Some a.1
    at_itself = ap (λ b. cond b (Some a.1) (lookup a.0 ad)) (same_name_equivalence.refl a.0)

    here : (b : Bool) → is_asked a.0 ≡ b → cond b (attribute_digest a.0 a.1) 0 + sum_by asked_digest ad ≡ sum_by asked_digest ad
    here true asked = let clash = sym at_itself ∙ h a.0 asked in cc
    here false asked = omega arith

-- ---- the same is asked

same_totals : (a b : Attributes) → AreDistinct a → AreDistinct b → SameRequest a b → sum_by asked_digest a ≡ sum_by asked_digest b
same_totals [] b d f same = sym (nothing_asked b (λ name asked. sym (same name asked)))
same_totals (x ∷ a) b d f same = sum_by-cons asked_digest x a ∙ by (is_asked x.0) refl (same_totals a b d.1 f) (same_totals a (without x.0 b) d.1 (AreDistinct-without x.0 b f))
  where
    at_itself : lookup x.0 (x ∷ a) ≡ Some x.1
    at_itself = ap (λ t. cond t (Some x.1) (lookup x.0 a)) (same_name_equivalence.refl x.0)

    -- the first is not asked
    unasked : is_asked x.0 ≡ false → SameRequest a b
    unasked not_asked name asked = at (same_name name x.0) refl
      where
        at : (t : Bool) → same_name name x.0 ≡ t → lookup name a ≡ lookup name b
        at true alike = let clash = sym (asked_alike name x.0 alike ∙ not_asked) ∙ asked in cc
        at false alike = sym (ap (λ t. cond t (Some x.1) (lookup name a)) alike) ∙ same name asked

    -- it is, and so is in both
    rest_same : SameRequest a (without x.0 b)
    rest_same name asked = at (same_name name x.0) refl
      where
        at : (t : Bool) → same_name name x.0 ≡ t → lookup name a ≡ lookup name (without x.0 b)
        at true alike =
            lookup_alike name x.0 alike a ∙ d.0
            ∙ sym (lookup_alike name x.0 alike (without x.0 b) ∙ removed x.0 b f)
        at false alike =
            sym (ap (λ t. cond t (Some x.1) (lookup name a)) alike)
            ∙ same name asked
            ∙ sym (left x.0 name b (same_name_equivalence.symm x.0 name ∙ alike))

    by : (t : Bool) → is_asked x.0 ≡ t
        → (SameRequest a b → sum_by asked_digest a ≡ sum_by asked_digest b)
        → (SameRequest a (without x.0 b) → sum_by asked_digest a ≡ sum_by asked_digest (without x.0 b))
        → cond t (attribute_digest x.0 x.1) 0 + sum_by asked_digest a ≡ sum_by asked_digest b
    by true asked whole rest =
        ap (λ n. attribute_digest x.0 x.1 + n) (rest rest_same)
        ∙ sym (taken_out x.0 x.1 b asked (sym (same x.0 asked) ∙ at_itself))
    by false asked whole rest = let same_rest = whole (unasked asked) in omega (arith, same_rest)

pub same_requests_have_one_digest : SameRequestsHaveOneDigest
same_requests_have_one_digest a b d f same = ap (λ n. n % 2 ^ 64) (same_totals a b d f same)
