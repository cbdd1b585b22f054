-- To compare an ad with the request of a job's ad, attribute by attribute.
use Rattle.std.proofs.Common.{◌≡◌, ◌↔◌, ℕ, suc, ◌+◌, ◌<◌, ◌≤◌, Bool, true, false, cond, not, List, [], ◌∷◌, length, drop, get_or, Some, refl, sym, ◌∙◌, ap, arith, add-one}
use Rattle.std.specs.Prelude.{slice_get, nat_lt}
use Rattle.std.specs.List.{list_any}
use Rattle.std.proofs.Math.Seq.{drop-cons}
use Rattle.std.proofs.lemmas.Bool.{ltb-true, ltb-false}
use Rattle.std.proofs.lemmas.List.{drop_all}
use Rattle.std.proofs.lemmas.Option.{slice_get_within, get_or_from_slice_get, slice_get-get_or}
use Rattle.ad_value.specs.Groups.{run_names}
use Rattle.ad_tree.specs.Ad.{Attributes}
use Rattle.ad_tree.specs.Tree.{Tree}
use Rattle.ad_value.specs.Names.{same_name}
use Rattle.pool_mail.specs.Ads.{request_ad}

-- ---- what is at a place
drop_at : {A : Type 0} (xs : List A) (k : ℕ) (x : A) → slice_get xs k ≡ Some x → drop k xs ≡ x ∷ drop (k + 1) xs
drop_at xs k x at =
    let within : k < length xs = slice_get_within xs k x at in
    drop-cons xs k x within ∙ (ap (λ y. y ∷ drop (suc k) xs) (get_or_from_slice_get xs k x x at) ∙ ap (λ n. x ∷ drop n xs) (sym (add-one k)))

at_drop : {A : Type 0} (xs : List A) (k : ℕ) (x : A) (ys : List A) → drop k xs ≡ x ∷ ys → slice_get xs k ≡ Some x
at_drop xs k x ys is = by_test (nat_lt k (length xs)) refl
  where
    by_test : (b : Bool) → nat_lt k (length xs) ≡ b → slice_get xs k ≡ Some x
    by_test true less =
        let within : k < length xs = ltb-true k (length xs) less in
        let heads : get_or xs k x ∷ drop (suc k) xs ≡ x ∷ ys = sym (drop-cons xs k x within) ∙ is in
        let head : get_or xs k x ≡ x = cc in
        slice_get-get_or xs k x within ∙ ap (λ y. Some y) head
    by_test false more =
        let past : length xs ≤ k = ltb-false k (length xs) more in
        let none : [] ≡ x ∷ ys = sym (drop_all k xs past) ∙ is in
        cc

abbrev Named : Type 0
Named = List ℕ × Tree

request_at_place : (ad : Attributes) (own : ℕ) (a : Named) → slice_get ad own ≡ Some a
    → request_ad (drop own ad) ≡ cond (not (list_any (same_name a.0) run_names)) (a ∷ request_ad (drop (own + 1) ad)) (request_ad (drop (own + 1) ad))
request_at_place ad own a at = ap request_ad (drop_at ad own a at)

-- ---- an attribute that is no part of the request
abbrev LeftIs : Attributes → ℕ → Attributes → ℕ → Type 0
LeftIs request place ad own = drop place request ≡ request_ad (drop own ad)

pub beside_request : (request ad : Attributes) (place own : ℕ) (a : Named) → slice_get ad own ≡ Some a → list_any (same_name a.0) run_names ≡ true
    → LeftIs request place ad own ↔ LeftIs request place ad (own + 1)
beside_request request ad place own a at is = (λ left. left ∙ same, λ left. left ∙ sym same)
  where
    same : request_ad (drop own ad) ≡ request_ad (drop (own + 1) ad)
    same = request_at_place ad own a at ∙ ap (λ b. cond (not b) (a ∷ request_ad (drop (own + 1) ad)) (request_ad (drop (own + 1) ad))) is

-- ---- one that is
part_of_request : (ad : Attributes) (own : ℕ) (a : Named) → slice_get ad own ≡ Some a → list_any (same_name a.0) run_names ≡ false
    → request_ad (drop own ad) ≡ a ∷ request_ad (drop (own + 1) ad)
part_of_request ad own a at is = request_at_place ad own a at ∙ ap (λ b. cond (not b) (a ∷ request_ad (drop (own + 1) ad)) (request_ad (drop (own + 1) ad))) is

pub request_goes_on : (request ad : Attributes) (place own : ℕ) (a : Named) → slice_get ad own ≡ Some a → list_any (same_name a.0) run_names ≡ false
    → slice_get request place ≡ Some a → (place + 1 ≤ length request) × (LeftIs request place ad own ↔ LeftIs request (place + 1) ad (own + 1))
request_goes_on request ad place own a at is there = (
  (let within : place < length request = slice_get_within request place a there in omega arith),
  (λ left. tails (sym (drop_at request place a there) ∙ (left ∙ part_of_request ad own a at is)), λ left. drop_at request place a there ∙ (ap (λ l. a ∷ l) left ∙ sym (part_of_request ad own a at is))),
)
  where
    tails : a ∷ drop (place + 1) request ≡ a ∷ request_ad (drop (own + 1) ad) → LeftIs request (place + 1) ad (own + 1)
    tails same = cc

pub request_ends : (request ad : Attributes) (place own : ℕ) (a : Named) → slice_get ad own ≡ Some a → list_any (same_name a.0) run_names ≡ false
    → (slice_get request place ≡ Some a → ⊥) → LeftIs request place ad own → ⊥
request_ends request ad place own a at is other left = other (at_drop request place a (request_ad (drop (own + 1) ad)) (left ∙ part_of_request ad own a at is))
