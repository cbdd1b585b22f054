-- One more turn, for the loop of a spin.
use Rattle.std.proofs.Common.{◌≡◌, ℕ, ◌+◌, ◌<◌, ◌≤◌, List, [], ◌∷◌, ◌++◌, length, get_or, set, take, drop, map, refl, sym, ap, ◌∙◌, arith, subst, append_assoc}
use Rattle.std.specs.Prelude.{max}
use Rattle.std.specs.List.{sum_by, All}
use Rattle.std.proofs.lemmas.List.{drop_more, drop_all, take_all, take_more_set, drop-set-lt, get_or-map, map-set, set-get_or, map_push, append-nil, length-map}
use Rattle.std.proofs.lemmas.List.Sums.{sum_by-cons, get_or-le-sum_by}
use Rattle.matchmaker.specs.Cycle.{Bidder, Course, weight, share, turns, spin_of, unmatched, turn, given, under_ceiling}
use Rattle.matchmaker.specs.Loops.{course_of, after_those}
use Rattle.matchmaker.proofs.Ending.{first_turn, most_of, turns_end, turns_more}
use Rattle.pool_mail.specs.declared.matching.Request.{Request}
use Rattle.matchmaker.specs.declared.snapshot.Snapshot.{Snapshot}
use Rattle.matchmaker.specs.declared.course.Account.{Account}
use Rattle.matchmaker.specs.declared.course.Made.{Made}

turned_one : (snap : Snapshot) (shared : Account → ℕ) (least : ℕ) (front : List Bidder) (b : Bidder) (bs : List Bidder) (made : List Made) →
    after_those front (turns snap shared least (b ∷ bs) made)
    ≡ after_those (front ++ record { account = b.account; left = (first_turn snap shared least b made).0 } ∷ []) (turns snap shared 0 bs (first_turn snap shared least b made).1)
unfolding after_those
turned_one snap shared least front b bs made = rw (turns_more snap shared least b bs made)
    (ap (λ (x : List Bidder). after x (turns snap shared 0 bs (first_turn snap shared least b made).1).made)
    (sym (append_assoc front (record { account = b.account; left = (first_turn snap shared least b made).0 } ∷ []) (turns snap shared 0 bs (first_turn snap shared least b made).1).bidders))) where
      after : List Bidder → List Made → Course
      after x m = record { bidders = x; made = m }

pub spin_begin : (c : Course) → after_those [] c ≡ c
unfolding after_those
spin_begin c = refl

pub first_turn_is : (snap : Snapshot) (shared : Account → ℕ) (least : ℕ) (b : Bidder) (made seen : List Made) (part greater most : ℕ) (t : (List Request) × (List Made)) →
    part ≡ shared b.account → greater ≡ max least part → seen ≡ made → most ≡ under_ceiling b.account.ceiling (b.account.in_use + given b.account seen) greater →
    t ≡ turn snap b.account most b.left made → t ≡ first_turn snap shared least b made
unfolding first_turn most_of
first_turn_is snap shared least b made seen part greater most t e f g h k =
    k ∙ ap (λ n. turn snap b.account n b.left made) (h ∙ rw (f, e, g) refl)

-- X stands for a bidder
module _ {X : Type 0} (f : X → Bidder) where
  abbrev pub account_in : X → Account
  account_in x = (f x).account

  pub account_at : (xs ys : List X) → map account_in xs ≡ map account_in ys → (i : ℕ) (d : X) → i < length xs →
      (i < length ys) × ((f (get_or xs i d)).account ≡ (f (get_or ys i d)).account)
  account_at xs ys e i d h =
      let l : length xs ≡ length ys = sym (length-map xs account_in) ∙ ap length e ∙ length-map ys account_in in
      let k : i < length ys = omega arith in
      (k, sym (get_or-map account_in xs i d (f d).account h) ∙ ap (λ (l : List Account). get_or l i (f d).account) e ∙ get_or-map account_in ys i d (f d).account k)

  pub positive_at : (xs ys : List X) → map account_in xs ≡ map account_in ys → All (λ (x : X). 0 < (f x).account.effective) ys → (i : ℕ) (d : X) → i < length xs →
      0 < (f (get_or xs i d)).account.effective
  positive_at xs ys e all i d h = let p = account_at xs ys e i d h in subst (λ (u : Account). 0 < u.effective) (sym p.1) (all i d p.0)

  pub part_at : (xs ys : List X) → map account_in xs ≡ map account_in ys → (i : ℕ) (d : X) → i < length xs →
      weight (f (get_or xs i d)).account ≤ sum_by (λ (x : X). weight (f x).account) ys
  part_at xs ys e i d h = let p = account_at xs ys e i d h in
      subst (λ (u : Account). weight u ≤ sum_by (λ (x : X). weight (f x).account) ys) (sym p.1) (get_or-le-sum_by (λ (x : X). weight (f x).account) ys i d p.0)

  pub same_account : (xs : List X) (i : ℕ) (y d : X) → i < length xs → (f y).account ≡ (f (get_or xs i d)).account → map account_in (set xs i y) ≡ map account_in xs
  same_account xs i y d h e = map-set account_in xs i y ∙ (ap (λ (u : Account). set (map account_in xs) i u) (e ∙ sym (get_or-map account_in xs i d (f d).account h)) ∙ set-get_or (map account_in xs) i (f d).account)

  pub same_length : (xs ys : List X) → map account_in xs ≡ map account_in ys → length xs ≡ length ys
  same_length xs ys e = sym (length-map xs account_in) ∙ (ap length e ∙ length-map ys account_in)

  pub spin_step : (snap : Snapshot) (shared : Account → ℕ) (least : ℕ) (xs : List X) (i : ℕ) (y d : X) (made later : List Made) → i < length xs →
      (f y).account ≡ (f (get_or xs i d)).account → ((f y).left, later) ≡ first_turn snap shared least (f (get_or xs i d)) made →
      after_those (map f (take (i + 1) (set xs i y))) (turns snap shared 0 (map f (drop (i + 1) (set xs i y))) later)
      ≡ after_those (map f (take i xs)) (turns snap shared least (map f (drop i xs)) made)
  spin_step snap shared least xs i y d made later h w t =
      let k : i < i + 1 = omega arith in
      rw (take_more_set xs i y h, drop-set-lt (i + 1) xs i y k, drop_more xs i d h, map_push f (take i xs) y)
      (sym (turned_one snap shared least (map f (take i xs)) (f (get_or xs i d)) (map f (drop (i + 1) xs)) made
      ∙ same)) where
        done : (List Bidder) → Account → (List Request) × (List Made) → Course
        done rest u p = after_those (map f (take i xs) ++ record { account = u; left = p.0 } ∷ []) (turns snap shared 0 rest p.1)

        same : done (map f (drop (i + 1) xs)) (f (get_or xs i d)).account (first_turn snap shared least (f (get_or xs i d)) made)
            ≡ done (map f (drop (i + 1) xs)) (f y).account ((f y).left, later)
        same = cc

  pub spin_end : (snap : Snapshot) (shared : Account → ℕ) (least : ℕ) (xs : List X) (i : ℕ) (made : List Made) → length xs ≤ i →
      after_those (map f (take i xs)) (turns snap shared least (map f (drop i xs)) made) ≡ course_of f xs made
  unfolding after_those
  spin_end snap shared least xs i made h = rw (take_all i xs h, drop_all i xs h, turns_end snap shared least made)
      (ap (λ (x : List Bidder). after x made) (append-nil (map f xs))) where
        after : List Bidder → List Made → Course
        after x m = record { bidders = x; made = m }

  weights_of : (xs : List X) → sum_by (λ (b : Bidder). weight b.account) (map f xs) ≡ sum_by (λ (x : X). weight (f x).account) xs
  weights_of [] = refl
  weights_of (x ∷ xs) = sum_by-cons (λ (b : Bidder). weight b.account) (f x) (map f xs)
      ∙ (ap (λ (n : ℕ). weight (f x).account + n) (weights_of xs) ∙ sym (sum_by-cons (λ (x : X). weight (f x).account) x xs))

  pub spin_is : (snap : Snapshot) (xs : List X) (made : List Made) (total weights : ℕ) → total ≡ unmatched snap.slots made → weights ≡ sum_by (λ (x : X). weight (f x).account) xs →
      turns snap (share total weights) 1 (map f xs) made ≡ spin_of snap (map f xs) made
  unfolding spin_of
  spin_is snap xs made total weights e k = rw (e, k, weights_of xs) refl
