-- The loops over slots that are lent: one more slot judged, one more looked at.
use Rattle.std.proofs.Common.{◌≡◌, ℕ, ℤ, ◌+◌, ◌<◌, ◌≤◌, List, [], ◌∷◌, ◌++◌, length, get_or, take, drop, ◌&&◌, Bool, true, false, refl, sym, ap, ◌∙◌, Option, Some, None, subst}
use Rattle.std.specs.Prelude.{if◌then◌else◌, option_map}
use Rattle.std.specs.List.{filter}
use Rattle.std.proofs.lemmas.List.{map-append, drop_more, drop_all, take_all}
use Rattle.matchmaker.specs.Cycle.{Ranked, is_unmatched, ranked_for}
use Rattle.matchmaker.specs.Offers.{fits, rank_of_slot}
use Rattle.negotiate.specs.Grouped.{fits_now, list_for, ranked, all_ranked, first_kept, best_kept, better_kept}
use Rattle.negotiate.proofs.KeptLists.{list_yes, list_no, list_none, one, last}
use Rattle.pool_mail.specs.declared.matching.Request.{Request}
use Rattle.negotiate.specs.declared.grouping.Kept.{Kept}
use Rattle.matchmaker.specs.declared.snapshot.Offer.{Offer}
use Rattle.matchmaker.specs.declared.course.Made.{Made}

-- ---- one slot that is judged
module _ (now : ℕ) (made : List Made) (r : Request) (slot : Offer) where
  abbrev told_of : Bool → Option Ranked
  told_of b = if b then Some (ranked_for now r slot) else None

  told_at : (u b : Bool) → u ≡ is_unmatched made slot → b ≡ fits now r slot → told_of (u && b) ≡ (if fits_now now made r slot then Some (ranked_for now r slot) else None)
  unfolding fits_now
  told_at u b e f = λ i. told_of (e i && f i)

  pub matched_not_kept : (u : Bool) → u ≡ is_unmatched made slot → u ≡ false → None ≡ (if fits_now now made r slot then Some (ranked_for now r slot) else None)
  matched_not_kept u e t = told_at false (fits now r slot) (sym t ∙ e) refl

  pub unfit_not_kept : (u b : Bool) → u ≡ is_unmatched made slot → u ≡ true → b ≡ fits now r slot → b ≡ false → None ≡ (if fits_now now made r slot then Some (ranked_for now r slot) else None)
  unfit_not_kept u b e t f unfit = told_at true false (sym t ∙ e) (sym unfit ∙ f)

  pub fit_kept : (u b : Bool) (rank : ℤ) → u ≡ is_unmatched made slot → u ≡ true → b ≡ fits now r slot → b ≡ true → rank ≡ rank_of_slot now r slot
      → Some (record { slot = slot; rank = rank }) ≡ (if fits_now now made r slot then Some (ranked_for now r slot) else None)
  fit_kept u b rank e t f fit is =
      let kept : ℤ → Option Ranked = λ n. Some (record { slot = slot; rank = n }) in
      ap kept is ∙ told_at true true (sym t ∙ e) (sym fit ∙ f)

-- ---- the loop that judges

abbrev Tells : ℕ → List Made → Request → Offer → Option Kept → Type 0
Tells now made r slot o = option_map ranked o ≡ (if fits_now now made r slot then Some (ranked_for now r slot) else None)

pub judged_none : (now : ℕ) (made : List Made) (r : Request) (list : List Kept) → list ≡ [] → all_ranked list ≡ list_for now [] made r
judged_none now made r list e = ap all_ranked e ∙ sym (list_none now made r)

pub judged_yes : (now : ℕ) (slots : List Offer) (made : List Made) (r : Request) (i : ℕ) (slot : Offer) (o : Option Kept) (k : Kept) (before after : List Kept) → i < length slots → slot ≡ get_or slots i slot → Tells now made r slot o → o ≡ Some k
    → after ≡ before ++ k ∷ [] → all_ranked before ≡ list_for now (take i slots) made r → all_ranked after ≡ list_for now (take (i + 1) slots) made r
judged_yes now slots made r i slot o k before after h e t s a b =
    list_yes now slots made r i slot (ranked k) (all_ranked before) (all_ranked after) h
    (subst (λ (x : Offer). Some (ranked k) ≡ (if fits_now now made r x then Some (ranked_for now r x) else None)) e (sym (ap (option_map ranked) s) ∙ t))
    b (ap all_ranked a ∙ map-append ranked before (k ∷ []))

pub judged_no : (now : ℕ) (slots : List Offer) (made : List Made) (r : Request) (i : ℕ) (slot : Offer) (o : Option Kept) (before : List Kept) → i < length slots → slot ≡ get_or slots i slot → Tells now made r slot o → o ≡ None
    → all_ranked before ≡ list_for now (take i slots) made r → all_ranked before ≡ list_for now (take (i + 1) slots) made r
judged_no now slots made r i slot o before h e t s b =
    list_no now slots made r i slot (all_ranked before) h
    (subst (λ (x : Offer). None ≡ (if fits_now now made r x then Some (ranked_for now r x) else None)) e (sym (ap (option_map ranked) s) ∙ t)) b

pub judged_all : (now : ℕ) (slots all : List Offer) (made : List Made) (r : Request) (i : ℕ) (list : List Kept) → length slots ≤ i → slots ≡ all → all_ranked list ≡ list_for now (take i slots) made r → all_ranked list ≡ list_for now all made r
judged_all now slots all made r i list h e b = b ∙ ap (λ (l : List Offer). list_for now l made r) (take_all i slots h ∙ e)

-- ---- the loop that chooses of a list

pub left_of : (Ranked → Bool) → List Kept → ℕ → List Ranked
left_of p list i = filter p (all_ranked (drop i list))

pub chosen_begin : (p : Ranked → Bool) (list : List Kept) (start : Option Kept) → start ≡ None → best_kept (option_map ranked start) (left_of p list 0) ≡ first_kept (filter p (all_ranked list))
unfolding left_of best_kept
chosen_begin p list start e = ap (λ (o : Option Kept). best_kept (option_map ranked o) (filter p (all_ranked list))) e

pub chosen_yes : (p : Ranked → Bool) (list : List Kept) (i : ℕ) (k d : Kept) (best : Option Kept) (better : Kept) → i < length list → k ≡ get_or list i d → p (ranked k) ≡ true → ranked better ≡ better_kept (option_map ranked best) (ranked k)
    → best_kept (option_map ranked (Some better)) (left_of p list (i + 1)) ≡ best_kept (option_map ranked best) (left_of p list i)
unfolding left_of
chosen_yes p list i k d best better h e t b =
    ap (λ (r : Ranked). best_kept (Some r) (filter p (all_ranked (drop (i + 1) list)))) b
    ∙ sym (one (option_map ranked best) (ranked k) (filter p (all_ranked (drop (i + 1) list))))
    ∙ ap (best_kept (option_map ranked best)) (sym (ap (λ (l : List Kept). filter p (all_ranked l)) (drop_more list i d h ∙ ap (λ (x : Kept). x ∷ drop (i + 1) list) (sym e)) ∙ at_front))
  where
    at_front : filter p (ranked k ∷ all_ranked (drop (i + 1) list)) ≡ ranked k ∷ filter p (all_ranked (drop (i + 1) list))
    at_front = rw t refl

pub chosen_no : (p : Ranked → Bool) (list : List Kept) (i : ℕ) (k d : Kept) (best : Option Kept) → i < length list → k ≡ get_or list i d → p (ranked k) ≡ false
    → best_kept (option_map ranked best) (left_of p list (i + 1)) ≡ best_kept (option_map ranked best) (left_of p list i)
unfolding left_of
chosen_no p list i k d best h e t =
    ap (best_kept (option_map ranked best)) (sym (ap (λ (l : List Kept). filter p (all_ranked l)) (drop_more list i d h ∙ ap (λ (x : Kept). x ∷ drop (i + 1) list) (sym e)) ∙ at_front))
  where
    at_front : filter p (ranked k ∷ all_ranked (drop (i + 1) list)) ≡ filter p (all_ranked (drop (i + 1) list))
    at_front = rw t refl

pub chosen_end : (p : Ranked → Bool) (list : List Kept) (i : ℕ) (best : Option Kept) → length list ≤ i → best_kept (option_map ranked best) (left_of p list i) ≡ option_map (λ (k : Ranked). k.slot) (option_map ranked best)
unfolding left_of
chosen_end p list i best h = ap (λ (l : List Kept). best_kept (option_map ranked best) (filter p (all_ranked l))) (drop_all i list h) ∙ last (option_map ranked best)
