-- Kept lists: one more slot, more matches, another request of the autocluster, and what is chosen.
use Rattle.std.proofs.Common.{◌≡◌, ℕ, ◌+◌, ◌<◌, ◌≤◌, List, [], ◌∷◌, ◌++◌, length, get_or, take, drop, map, true, false, ◌&&◌, cond, refl, sym, ap, ◌∙◌, Option, Some, None, inl, inr}
use Rattle.std.specs.Prelude.{Bool, if◌then◌else◌, option_map}
use Rattle.std.specs.List.{filter, best_of}
use Rattle.std.proofs.lemmas.List.{map-append, append-nil, drop_all}
use Rattle.std.proofs.lemmas.List.Elements.{filter_more}
use Rattle.matchmaker.specs.Offers.{fits, rank_of_slot, is_offered}
use Rattle.matchmaker.specs.Cycle.{Ranked, is_unmatched, may_choose, candidates, ranked_for, goes_before, first_of, choice}
use Rattle.negotiate.specs.Grouped.{fits_now, list_for, Serves, first_kept, kept_before, choice_in, better_kept, best_kept}
use Rattle.negotiate.proofs.Members.{IsIn}
use Rattle.matchmaker.proofs.Choices.{filter_yes, filter_no}
use Rattle.negotiate.proofs.Growing.{Grows, Grows-refl}
use Rattle.pool_mail.specs.declared.matching.Request.{Request}
use Rattle.matchmaker.specs.declared.snapshot.Offer.{Offer}
use Rattle.matchmaker.specs.declared.snapshot.Snapshot.{Snapshot}
use Rattle.matchmaker.specs.declared.course.Account.{Account}
use Rattle.matchmaker.specs.declared.course.Made.{Made}

-- the same matching slots and ranks
abbrev pub AlikeAt : ℕ → List Offer → Request → Request → Type 0
AlikeAt now slots q r = (s : Offer) → IsIn s slots → (fits now q s ≡ fits now r s) × (rank_of_slot now q s ≡ rank_of_slot now r s)

module _ (now : ℕ) where
  -- ---- the loop that judges

  pub list_none : (made : List Made) (r : Request) → list_for now [] made r ≡ []
  unfolding list_for
  list_none made r = refl

  pub list_more : (slots : List Offer) (made : List Made) (r : Request) (i : ℕ) (d : Offer) → i < length slots →
      list_for now (take (i + 1) slots) made r ≡ list_for now (take i slots) made r ++ cond (fits_now now made r (get_or slots i d)) (ranked_for now r (get_or slots i d) ∷ []) []
  unfolding list_for
  list_more slots made r i d h = rw (filter_more (fits_now now made r) slots i d h, map-append (ranked_for now r) (filter (fits_now now made r) (take i slots)))
      (ap (λ (ks : List Ranked). map (ranked_for now r) (filter (fits_now now made r) (take i slots)) ++ ks) (inner (fits_now now made r (get_or slots i d)))) where
        inner : (b : Bool) → map (ranked_for now r) (cond b (get_or slots i d ∷ []) []) ≡ cond b (ranked_for now r (get_or slots i d) ∷ []) []
        inner true = refl
        inner false = refl

  pub list_yes : (slots : List Offer) (made : List Made) (r : Request) (i : ℕ) (d : Offer) (k : Ranked) (before after : List Ranked) → i < length slots →
      Some k ≡ (if fits_now now made r (get_or slots i d) then Some (ranked_for now r (get_or slots i d)) else None) →
      before ≡ list_for now (take i slots) made r → after ≡ before ++ k ∷ [] → after ≡ list_for now (take (i + 1) slots) made r
  list_yes slots made r i d k before after h e f g = g ∙ (ap (λ ks. ks ++ k ∷ []) f ∙ (tail (fits_now now made r (get_or slots i d)) e ∙ sym (list_more slots made r i d h))) where
    tail : (b : Bool) → Some k ≡ (if b then Some (ranked_for now r (get_or slots i d)) else None) →
        list_for now (take i slots) made r ++ k ∷ [] ≡ list_for now (take i slots) made r ++ cond b (ranked_for now r (get_or slots i d) ∷ []) []
    tail true q = cc
    tail false q = cc

  pub list_no : (slots : List Offer) (made : List Made) (r : Request) (i : ℕ) (d : Offer) (before : List Ranked) → i < length slots →
      None ≡ (if fits_now now made r (get_or slots i d) then Some (ranked_for now r (get_or slots i d)) else None) →
      before ≡ list_for now (take i slots) made r → before ≡ list_for now (take (i + 1) slots) made r
  list_no slots made r i d before h e f = f ∙ (tail (fits_now now made r (get_or slots i d)) e ∙ sym (list_more slots made r i d h)) where
    tail : (b : Bool) → None ≡ (if b then Some (ranked_for now r (get_or slots i d)) else None) →
        list_for now (take i slots) made r ≡ list_for now (take i slots) made r ++ cond b (ranked_for now r (get_or slots i d) ∷ []) []
    tail true q = cc
    tail false q = sym (append-nil _)

  -- ---- filters on lists

  filter_both : {A : Type 0} (p q : A → Bool) (xs : List A) → filter q (filter p xs) ≡ filter (λ x. p x && q x) xs
  filter_both p q [] = refl
  filter_both p q (x ∷ xs) = elim (p x) as (λ b. filter q (cond b (x ∷ filter p xs) (filter p xs)) ≡ cond (b && q x) (x ∷ filter (λ y. p y && q y) xs) (filter (λ y. p y && q y) xs)) [
    | true ↦ elim (q x) as (λ b. cond b (x ∷ filter q (filter p xs)) (filter q (filter p xs)) ≡ cond b (x ∷ filter (λ y. p y && q y) xs) (filter (λ y. p y && q y) xs)) [
      | true ↦ ap (λ ys. x ∷ ys) (filter_both p q xs)
      | false ↦ filter_both p q xs
    ]
    | false ↦ filter_both p q xs
  ]

  filter_same : {A : Type 0} (p q : A → Bool) (xs : List A) → ((x : A) → IsIn x xs → p x ≡ q x) → filter p xs ≡ filter q xs
  filter_same p q [] h = refl
  filter_same p q (x ∷ xs) h = rw (h x (inl refl), filter_same p q xs (λ y i. h y (inr i))) refl

  filter_mapped : {A B : Type 0} (f : A → B) (p : B → Bool) (xs : List A) → filter p (map f xs) ≡ map f (filter (λ x. p (f x)) xs)
  filter_mapped f p [] = refl
  filter_mapped f p (x ∷ xs) = elim (p (f x)) as (λ b. cond b (f x ∷ filter p (map f xs)) (filter p (map f xs)) ≡ map f (cond b (x ∷ filter (λ y. p (f y)) xs) (filter (λ y. p (f y)) xs))) [
    | true ↦ ap (λ ys. f x ∷ ys) (filter_mapped f p xs)
    | false ↦ filter_mapped f p xs
  ]

  -- ---- more matches

  still_free : (made later : List Made) → Grows made later → (s : Offer) → (is_unmatched made s && is_unmatched later s) ≡ is_unmatched later s
  still_free made later g s = at (is_unmatched made s) refl where
    at : (b : Bool) → is_unmatched made s ≡ b → (b && is_unmatched later s) ≡ is_unmatched later s
    at true e = refl
    at false e = sym (g.taken s e)

  pub list_grows : (slots : List Offer) (made later : List Made) (r : Request) → Grows made later →
      filter (λ (k : Ranked). is_unmatched later k.slot) (list_for now slots made r) ≡ list_for now slots later r
  unfolding list_for fits_now
  list_grows slots made later r g = filter_mapped (ranked_for now r) (λ (k : Ranked). is_unmatched later k.slot) (filter (λ s. is_unmatched made s && fits now r s) slots)
      ∙ ap (map (ranked_for now r)) (filter_both (λ s. is_unmatched made s && fits now r s) (is_unmatched later) slots
      ∙ filter_same _ _ slots (λ s i. bools (is_unmatched made s) (fits now r s) (is_unmatched later s) (still_free made later g s))) where
        bools : (a b c : Bool) → (a && c) ≡ c → ((a && b) && c) ≡ (c && b)
        bools true true true e = refl
        bools true true false e = refl
        bools true false true e = refl
        bools true false false e = refl
        bools false true true e = e
        bools false true false e = refl
        bools false false true e = refl
        bools false false false e = refl

  pub Serves-grows : (slots : List Offer) (made later : List Made) (r : Request) (list : List Ranked) → Grows made later → Serves now slots made r list → Serves now slots later r list
  Serves-grows slots made later r list g k = record {
    is =
        filter_same _ _ list (λ (x : Ranked) i. sym (still_free made later g x.slot))
        ∙ (sym (filter_both (λ (x : Ranked). is_unmatched made x.slot) (λ (x : Ranked). is_unmatched later x.slot) list)
        ∙ (ap (filter (λ (x : Ranked). is_unmatched later x.slot)) k.is ∙ list_grows slots made later r g));
  }

  -- ---- another request of the autocluster

  list_alike : (slots : List Offer) (made : List Made) (q r : Request) → AlikeAt now slots q r → list_for now slots made q ≡ list_for now slots made r
  unfolding list_for fits_now
  list_alike [] made q r a = refl
  list_alike (s ∷ slots) made q r a = rw ((a s (inl refl)).0)
      (elim (is_unmatched made s && fits now r s) as (λ b. map (ranked_for now q) (cond b (s ∷ filter (λ t. is_unmatched made t && fits now q t) slots) (filter (λ t. is_unmatched made t && fits now q t) slots))
      ≡ map (ranked_for now r) (cond b (s ∷ filter (λ t. is_unmatched made t && fits now r t) slots) (filter (λ t. is_unmatched made t && fits now r t) slots))) [
        | true ↦ rw ((a s (inl refl)).1) (ap (λ ks. ranked_for now r s ∷ ks) (list_alike slots made q r (λ t i. a t (inr i))))
        | false ↦ list_alike slots made q r (λ t i. a t (inr i))
      ])

  pub Serves-alike : (slots : List Offer) (made : List Made) (q r : Request) (list : List Ranked) → AlikeAt now slots q r → Serves now slots made q list → Serves now slots made r list
  Serves-alike slots made q r list a k = record { is = k.is ∙ list_alike slots made q r a }

  -- ---- a list that was just made

  pub Serves-fresh : (slots : List Offer) (made : List Made) (r : Request) → Serves now slots made r (list_for now slots made r)
  Serves-fresh slots made r = record { is = list_grows slots made made r (Grows-refl made) }

  -- ---- what is chosen

  best_mapped : (r : Request) (s : Offer) (ss : List Offer) → best_of kept_before (ranked_for now r s) (map (ranked_for now r) ss) ≡ ranked_for now r (best_of (goes_before now r) s ss)
  unfolding goes_before
  best_mapped r s [] = refl
  best_mapped r s (t ∷ ts) = elim (kept_before (ranked_for now r t) (ranked_for now r s)) as (λ b. best_of kept_before (cond b (ranked_for now r t) (ranked_for now r s)) (map (ranked_for now r) ts)
      ≡ ranked_for now r (best_of (λ x y. kept_before (ranked_for now r x) (ranked_for now r y)) (cond b t s) ts)) [
        | true ↦ best_mapped r t ts
        | false ↦ best_mapped r s ts
      ]

  first_mapped : (r : Request) (ss : List Offer) → first_kept (map (ranked_for now r) ss) ≡ first_of now r ss
  unfolding first_kept first_of
  first_mapped r [] = refl
  first_mapped r (s ∷ ss) = ap (λ (k : Ranked). Some k.slot) (best_mapped r s ss)

pub serve_choice : (s : Snapshot) (u : Account) (made : List Made) (r : Request) (list : List Ranked) → Serves s.now s.slots made r list → choice_in s u made r list ≡ choice s u made r
unfolding choice_in choice candidates may_choose list_for fits_now
serve_choice s u made r list k = ap first_kept (sym (filter_both s.now (λ (x : Ranked). is_unmatched made x.slot) (λ (x : Ranked). is_offered s u r x.slot) list)
    ∙ (ap (filter (λ (x : Ranked). is_offered s u r x.slot)) k.is
    ∙ (filter_mapped s.now (ranked_for s.now r) (λ (x : Ranked). is_offered s u r x.slot) (filter (λ o. is_unmatched made o && fits s.now r o) s.slots)
    ∙ ap (map (ranked_for s.now r)) (filter_both s.now (λ o. is_unmatched made o && fits s.now r o) (λ o. is_offered s u r o) s.slots
    ∙ filter_same s.now _ _ s.slots (λ o i. bools (is_unmatched made o) (fits s.now r o) (is_offered s u r o))))))
    ∙ first_mapped s.now r (filter (λ o. is_unmatched made o && (is_offered s u r o && fits s.now r o)) s.slots) where
      bools : (a b c : Bool) → ((a && b) && c) ≡ (a && (c && b))
      bools true true true = refl
      bools true true false = refl
      bools true false true = refl
      bools true false false = refl
      bools false b c = refl

-- ---- the loop that chooses of a list

pub one : (o : Option Ranked) (k : Ranked) (ks : List Ranked) → best_kept o (k ∷ ks) ≡ best_kept (Some (better_kept o k)) ks
unfolding best_kept first_kept
one None k ks = refl
one (Some b) k ks = refl

pub last : (o : Option Ranked) → best_kept o [] ≡ option_map (λ (k : Ranked). k.slot) o
unfolding best_kept first_kept
last None = refl
last (Some b) = refl

pub kept_yes : (o : Option Ranked) (p : Ranked → Bool) (xs : List Ranked) (i : ℕ) (d : Ranked) → i < length xs → p (get_or xs i d) ≡ true →
    best_kept (Some (better_kept o (get_or xs i d))) (filter p (drop (i + 1) xs)) ≡ best_kept o (filter p (drop i xs))
kept_yes o p xs i d h q = sym (ap (best_kept o) (filter_yes p xs i d h q) ∙ one o (get_or xs i d) (filter p (drop (i + 1) xs)))

pub kept_no : (o : Option Ranked) (p : Ranked → Bool) (xs : List Ranked) (i : ℕ) (d : Ranked) → i < length xs → p (get_or xs i d) ≡ false →
    best_kept o (filter p (drop (i + 1) xs)) ≡ best_kept o (filter p (drop i xs))
kept_no o p xs i d h q = ap (best_kept o) (sym (filter_no p xs i d h q))

pub kept_end : (o : Option Ranked) (p : Ranked → Bool) (xs : List Ranked) (i : ℕ) → length xs ≤ i → best_kept o (filter p (drop i xs)) ≡ option_map (λ (k : Ranked). k.slot) o
kept_end o p xs i h = ap (λ ks. best_kept o (filter p ks)) (drop_all i xs h) ∙ last o
