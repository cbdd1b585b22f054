-- The ads of one startd's slots more.
use Rattle.std.proofs.Common.{◌≡◌, ◌≢◌, ◌↔◌, ℕ, suc, ◌+◌, ◌<◌, List, [], ◌∷◌, ◌++◌, length, drop, get_or, append_assoc, add-one, refl, ap, sym, ◌∙◌}
use Rattle.std.proofs.Math.Seq.{drop-cons}
use Rattle.ad_tree.specs.Ad.{Attributes}
use Rattle.startd_core.specs.Startds.{StartdValue}
use Rattle.pool_shown.specs.Slots.{ads_of, slot_ads}

cancel : (xs ys zs : List Attributes) → xs ++ ys ≡ xs ++ zs → ys ≡ zs
cancel [] ys zs e = e
cancel (x ∷ xs) ys zs e = cancel xs ys zs (let h : x ∷ (xs ++ ys) ≡ x ∷ (xs ++ zs) = e in cc)

pub next_startd : (all : List StartdValue) (i : ℕ) (v : StartdValue) (ads left rest : List Attributes)
    → i < length all → v ≡ get_or all i v
    → ((more : List Attributes) → (ads ≡ slot_ads all ++ more) ↔ (left ≡ slot_ads (drop i all) ++ more))
    → left ≡ ads_of v.slots ++ rest
    → (more : List Attributes) → (ads ≡ slot_ads all ++ more) ↔ (rest ≡ slot_ads (drop (i + 1) all) ++ more)
next_startd all i v ads left rest inside is before here more = (
  λ e. cancel (ads_of v.slots) rest (slot_ads (drop (i + 1) all) ++ more) (sym here ∙ ((before more).0 e ∙ split)),
  λ e. (before more).1 (here ∙ (ap (λ (xs : List Attributes). ads_of v.slots ++ xs) e ∙ sym split)),
)
  where
    dropped : drop i all ≡ v ∷ drop (i + 1) all
    dropped =
        drop-cons all i v inside
        ∙ (ap (λ (w : StartdValue). w ∷ drop (suc i) all) (sym is) ∙ ap (λ n. v ∷ drop n all) (sym (add-one i)))

    split : slot_ads (drop i all) ++ more ≡ ads_of v.slots ++ (slot_ads (drop (i + 1) all) ++ more)
    split =
        ap (λ (vs : List StartdValue). slot_ads vs ++ more) dropped
        ∙ append_assoc (ads_of v.slots) (slot_ads (drop (i + 1) all)) more

append_none : (xs : List Attributes) → xs ++ [] ≡ xs
append_none [] = refl
append_none (x ∷ xs) = ap (λ (ys : List Attributes). x ∷ ys) (append_none xs)

pub not_all : (ads : List Attributes) (vs : List StartdValue) → ((more : List Attributes) → ads ≢ slot_ads vs ++ more) → ads ≢ slot_ads vs
not_all ads vs none same = none [] (same ∙ sym (append_none (slot_ads vs)))
