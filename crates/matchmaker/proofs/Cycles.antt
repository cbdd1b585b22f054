-- One more spin, for the loop of a cycle.
use Rattle.std.proofs.Common.{◌≡◌, ℕ, suc, ◌-◌, ◌<◌, ◌≤◌, List, [], ◌∷◌, length, map, true, false, ◌||◌, cond, refl, sym, ap, ◌∙◌, arith, subst}
use Rattle.std.specs.Prelude.{◌==◌, Bool}
use Rattle.std.specs.List.{filter, All}
use Rattle.std.proofs.lemmas.List.{length-map}
use Rattle.std.proofs.lemmas.List.Elements.{All-filter}
use Rattle.std.proofs.lemmas.List.Sums.{length-filter, count_by-le-length}
use Rattle.matchmaker.specs.Cycle.{Bidder, Course, takes_part, unmatched, spin_of, players, is_over, spin, spins, requests_left, last_course}
use Rattle.matchmaker.specs.Loops.{course_of, those_who_play}
use Rattle.matchmaker.proofs.Ending.{spin_takes, spins_stop, spins_more}
use Rattle.matchmaker.proofs.Spins.{account_in, positive_at}
use Rattle.matchmaker.specs.declared.snapshot.Snapshot.{Snapshot}
use Rattle.matchmaker.specs.declared.course.Made.{Made}

-- what is left to spin gives the whole
pub record SpinsLeft (snap : Snapshot) (c : Course) (whole : Course) : Type 0 where
  pub most : ℕ
  pub enough : requests_left c.bidders ≤ most
  pub gives : spins snap most c ≡ whole

pub spins_begin : (snap : Snapshot) (bs : List Bidder) → SpinsLeft snap (record { bidders = bs; made = [] }) (last_course snap bs)
unfolding last_course
spins_begin snap bs = record { most = requests_left bs; enough = omega arith; gives = refl }

filter_map_comm : {A B : Type 0} (f : A → B) (p : B → Bool) (xs : List A) → filter p (map f xs) ≡ map f (filter (λ x. p (f x)) xs)
filter_map_comm f p [] = refl
filter_map_comm f p (x ∷ xs) = elim (p (f x)) as (λ b. cond b (f x ∷ filter p (map f xs)) (filter p (map f xs)) ≡ map f (cond b (x ∷ filter (λ y. p (f y)) xs) (filter (λ y. p (f y)) xs))) [
  | true ↦ ap (λ ys. f x ∷ ys) (filter_map_comm f p xs)
  | false ↦ filter_map_comm f p xs
]

-- X stands for a bidder; ps are those of xs who take part
module _ {X : Type 0} (f : X → Bidder) where
  players_are : (xs ps : List X) (made : List Made) → ps ≡ those_who_play f made xs → players (course_of f xs made) ≡ map f ps
  unfolding players
  players_are xs ps made e = filter_map_comm f (takes_part made) xs ∙ ap (map f) (sym e)

  over_is : (snap : Snapshot) (xs ps : List X) (made : List Made) → ps ≡ those_who_play f made xs →
      is_over snap (course_of f xs made) ≡ ((length ps == 0) || (unmatched snap.slots made == 0))
  unfolding is_over
  over_is snap xs ps made e = ap (λ n. (n == 0) || (unmatched snap.slots made == 0)) (ap length (players_are xs ps made e) ∙ length-map ps f)

  spin_is_of : (snap : Snapshot) (xs ps : List X) (made : List Made) → ps ≡ those_who_play f made xs →
      spin snap (course_of f xs made) ≡ spin_of snap (map f ps) made
  unfolding spin
  spin_is_of snap xs ps made e = ap (λ qs. spin_of snap qs made) (players_are xs ps made e)

  pub spins_end : (snap : Snapshot) (xs ps : List X) (made : List Made) (whole : Course) → SpinsLeft snap (course_of f xs made) whole →
      ps ≡ those_who_play f made xs → ((length ps == 0) || (unmatched snap.slots made == 0)) ≡ true → whole.made ≡ made
  spins_end snap xs ps made whole k e over = ap (λ (c : Course). c.made) (sym k.gives ∙ spins_stop snap k.most (course_of f xs made) (over_is snap xs ps made e ∙ over))

  pub spin_smaller : (snap : Snapshot) (xs ps later : List X) (made now : List Made) → ps ≡ those_who_play f made xs →
      ((length ps == 0) || (unmatched snap.slots made == 0)) ≡ false → course_of f later now ≡ spin_of snap (map f ps) made →
      requests_left (map f later) < requests_left (map f xs)
  spin_smaller snap xs ps later made now e on s =
      let over = over_is snap xs ps made e ∙ on in
      let lt = spin_takes snap (course_of f xs made) over in
      let same = s ∙ sym (spin_is_of snap xs ps made e) in
      subst (λ (c : Course). requests_left c.bidders < requests_left (map f xs)) (sym same) lt

  pub spins_step : (snap : Snapshot) (xs ps later : List X) (made now : List Made) (whole : Course) → SpinsLeft snap (course_of f xs made) whole → ps ≡ those_who_play f made xs →
      ((length ps == 0) || (unmatched snap.slots made == 0)) ≡ false → course_of f later now ≡ spin_of snap (map f ps) made →
      SpinsLeft snap (course_of f later now) whole
  spins_step snap xs ps later made now whole k e on s =
      let lt = spin_smaller snap xs ps later made now e on s in
      let same = s ∙ sym (spin_is_of snap xs ps made e) in
      let le = k.enough in
      record {
        most = k.most - 1;
        enough = omega arith;
        gives = ap (spins snap (k.most - 1)) same ∙ (sym (spins_more snap (k.most - 1) (course_of f xs made) (over_is snap xs ps made e ∙ on))
            ∙ (ap (λ n. spins snap n (course_of f xs made)) (let q : suc (k.most - 1) ≡ k.most = omega arith in q) ∙ k.gives));
      }

  pub players_positive : (xs ps : List X) (made : List Made) → ps ≡ those_who_play f made xs → All (λ (x : X). 0 < (f x).account.effective) xs →
      All (λ (x : X). 0 < (f x).account.effective) ps
  players_positive xs ps made e all = subst (λ (qs : List X). All (λ (x : X). 0 < (f x).account.effective) qs) (sym e)
      (All-filter (λ x. takes_part made (f x)) (λ (x : X). 0 < (f x).account.effective) xs all)

  pub still_positive : (xs ps later : List X) (made : List Made) → ps ≡ those_who_play f made xs → All (λ (x : X). 0 < (f x).account.effective) xs →
      map (account_in f) later ≡ map (account_in f) ps → All (λ (x : X). 0 < (f x).account.effective) later
  still_positive xs ps later made e all w i d h = positive_at f later ps w (players_positive xs ps made e all) i d h

  pub players_few : (xs ps : List X) (made : List Made) → ps ≡ those_who_play f made xs → length ps ≤ length xs
  players_few xs ps made e = rw (e, length-filter (λ x. takes_part made (f x)) xs) (count_by-le-length (λ x. takes_part made (f x)) xs)

-- what `is_over` answers, at the lists that it was lent
pub over_of : {X : Type 0} (snap : Snapshot) (xs ys : List X) (seen made : List Made) (r b : Bool) → r ≡ ((length xs == 0) || (unmatched snap.slots seen == 0)) → r ≡ b →
    xs ≡ ys → seen ≡ made → ((length ys == 0) || (unmatched snap.slots made == 0)) ≡ b
over_of {X = X} snap xs ys seen made r b e f g h =
    ap (λ (zs : List X). (length zs == 0) || (unmatched snap.slots made == 0)) (sym g)
    ∙ (ap (λ ms. (length xs == 0) || (unmatched snap.slots ms == 0)) (sym h) ∙ (sym e ∙ f))
