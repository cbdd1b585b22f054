-- Spins end: each takes a request.
use Rattle.std.proofs.Common.{◌≡◌, ℕ, zero, suc, ◌+◌, ◌<◌, ◌≤◌, List, [], ◌∷◌, length, Bool, true, false, ◌&&◌, cond, refl, arith, Option, Some, None, inl, inr, subst}
use Rattle.std.specs.Prelude.{◌==◌, max}
use Rattle.std.specs.List.{filter}
use Rattle.std.proofs.lemmas.List.Sums.{sum_by-cons}
use Rattle.std.proofs.lemmas.Bool.{cases_Bool, false≢true, ltb-true, eqb-false, or_parts}
use Rattle.matchmaker.specs.Cycle.{Bidder, Course, given, under_ceiling, is_under, is_below_ceiling, turn, turns, has_left, takes_part, spin_of, players, is_over, spin, spins, requests_left}
use Rattle.matchmaker.proofs.Turning.{turn_shorter, turn_takes}
use Rattle.pool_mail.specs.declared.matching.Request.{Request}
use Rattle.matchmaker.specs.declared.snapshot.Snapshot.{Snapshot}
use Rattle.matchmaker.specs.declared.course.Account.{Account}
use Rattle.matchmaker.specs.declared.course.Made.{Made}

-- ---- the rows of `turns`

unfoldable pub most_of : (Account → ℕ) → ℕ → Account → List Made → ℕ
most_of shared least u made = under_ceiling u.ceiling (u.in_use + given u made) (max least (shared u))

pub turns_end : (snap : Snapshot) (shared : Account → ℕ) (least : ℕ) (made : List Made) → turns snap shared least [] made ≡ record { bidders = []; made = made }
unfolding turns
turns_end snap shared least made = refl

-- the turn of the first, and the turns of the rest
unfoldable pub first_turn : Snapshot → (Account → ℕ) → ℕ → Bidder → List Made → (List Request) × (List Made)
first_turn snap shared least b made = turn snap b.account (most_of shared least b.account made) b.left made

pub turns_more : (snap : Snapshot) (shared : Account → ℕ) (least : ℕ) (b : Bidder) (bs : List Bidder) (made : List Made) →
    turns snap shared least (b ∷ bs) made ≡ record {
      bidders = record { account = b.account; left = (first_turn snap shared least b made).0 } ∷ (turns snap shared 0 bs (first_turn snap shared least b made).1).bidders;
      made = (turns snap shared 0 bs (first_turn snap shared least b made).1).made;
    }
unfolding turns first_turn most_of
turns_more snap shared least b bs made = refl

-- ---- what is left

pub left_cons : (b : Bidder) (bs : List Bidder) → requests_left (b ∷ bs) ≡ length b.left + requests_left bs
unfolding requests_left
left_cons b bs = sum_by-cons (λ b. length b.left) b bs

left_nil : requests_left [] ≡ 0
unfolding requests_left
left_nil = refl

short : (snap : Snapshot) (shared : Account → ℕ) (least : ℕ) (b : Bidder) (made : List Made) → length (first_turn snap shared least b made).0 ≤ length b.left
unfolding first_turn
short snap shared least b made = turn_shorter snap b.account (most_of shared least b.account made) b.left made

pub turns_le : (snap : Snapshot) (shared : Account → ℕ) (least : ℕ) (bs : List Bidder) (made : List Made) →
    requests_left (turns snap shared least bs made).bidders ≤ requests_left bs
turns_le snap shared least [] made = rw (turns_end snap shared least made) (omega arith)
turns_le snap shared least (b ∷ bs) made =
    rw (
      turns_more snap shared least b bs made,
      left_cons b bs,
      left_cons (record { account = b.account; left = (first_turn snap shared least b made).0 }) (turns snap shared 0 bs (first_turn snap shared least b made).1).bidders,
    )
    (let one : length (first_turn snap shared least b made).0 ≤ length b.left = short snap shared least b made in
    let ih = turns_le snap shared 0 bs (first_turn snap shared least b made).1 in omega arith)

room : (ceiling : Option ℕ) (has n : ℕ) → is_under ceiling has ≡ true → 0 < n → 0 < under_ceiling ceiling has n
unfolding is_under under_ceiling
room None has n h k = k
room (Some c) has n h k = let lt : has < c = ltb-true has c h in omega arith

and_true : (x y : Bool) → (x && y) ≡ true → (x ≡ true) × (y ≡ true)
and_true true y h = (refl, h)
and_true false y h = (h, absurd (false≢true h))

some_left : (rs : List Request) → has_left rs ≡ true → 0 < length rs
unfolding has_left
some_left [] h = absurd (false≢true h)
some_left (r ∷ rs) h = omega arith

pub first_takes : (snap : Snapshot) (shared : Account → ℕ) (b : Bidder) (made : List Made) → takes_part made b ≡ true →
    length (first_turn snap shared 1 b made).0 < length b.left
unfolding first_turn most_of takes_part is_below_ceiling
first_takes snap shared b made h =
    let p = and_true (has_left b.left) (is_under b.account.ceiling (b.account.in_use + given b.account made)) h in
    let k : 0 < max 1 (shared b.account) = omega arith in
    turn_takes snap b.account _ b.left made (room b.account.ceiling (b.account.in_use + given b.account made) (max 1 (shared b.account)) p.1 k) (some_left b.left p.0)

pub turns_lt : (snap : Snapshot) (shared : Account → ℕ) (b : Bidder) (bs : List Bidder) (made : List Made) → takes_part made b ≡ true →
    requests_left (turns snap shared 1 (b ∷ bs) made).bidders < requests_left (b ∷ bs)
turns_lt snap shared b bs made h =
    rw (
      turns_more snap shared 1 b bs made,
      left_cons b bs,
      left_cons (record { account = b.account; left = (first_turn snap shared 1 b made).0 }) (turns snap shared 0 bs (first_turn snap shared 1 b made).1).bidders,
    )
    (let one = first_takes snap shared b made h in
    let ih = turns_le snap shared 0 bs (first_turn snap shared 1 b made).1 in omega arith)

pub filter_le : (p : Bidder → Bool) (bs : List Bidder) → requests_left (filter p bs) ≤ requests_left bs
filter_le p [] = omega arith
filter_le p (b ∷ bs) = elim (p b) as (λ x. requests_left (cond x (b ∷ filter p bs) (filter p bs)) ≤ requests_left (b ∷ bs)) [
  | true ↦ let ih = filter_le p bs in rw (left_cons b bs, left_cons b (filter p bs)) (omega arith)
  | false ↦ let ih = filter_le p bs in rw (left_cons b bs) (omega arith)
]

-- the first of a filtered list passes
pub first_passes : (p : Bidder → Bool) (bs : List Bidder) (b : Bidder) (cs : List Bidder) → filter p bs ≡ b ∷ cs → p b ≡ true
first_passes p [] b cs e = cc
first_passes p (x ∷ xs) b cs e = at (p x) refl (first_passes p xs b cs) where
  at : (t : Bool) → p x ≡ t → (filter p xs ≡ b ∷ cs → p b ≡ true) → p b ≡ true
  at true q k = let e' : cond true (x ∷ filter p xs) (filter p xs) ≡ b ∷ cs = subst (λ t. cond t (x ∷ filter p xs) (filter p xs) ≡ b ∷ cs) q e in
      let same : x ≡ b = cc in subst (λ y. p y ≡ true) same q
  at false q k = k (subst (λ t. cond t (x ∷ filter p xs) (filter p xs) ≡ b ∷ cs) q e)

pub spin_of_takes : (snap : Snapshot) (made : List Made) (ps bs : List Bidder) → filter (takes_part made) bs ≡ ps → (length ps == 0) ≡ false →
    requests_left (spin_of snap ps made).bidders < requests_left ps
unfolding spin_of
spin_of_takes snap made [] bs e h = absurd (eqb-false 0 0 h refl)
spin_of_takes snap made (b ∷ ps) bs e h = turns_lt snap _ b ps made (first_passes (takes_part made) bs b ps e)

pub spin_takes : (snap : Snapshot) (c : Course) → is_over snap c ≡ false → requests_left (spin snap c).bidders < requests_left c.bidders
unfolding is_over spin players
spin_takes snap c h =
    let lt = spin_of_takes snap c.made (filter (takes_part c.made) c.bidders) c.bidders refl (or_parts _ _ h).0 in
    let le = filter_le (takes_part c.made) c.bidders in omega arith

-- ---- the rows of `spins`

pub spins_stop : (snap : Snapshot) (n : ℕ) (c : Course) → is_over snap c ≡ true → spins snap n c ≡ c
unfolding spins
spins_stop snap zero c h = refl
spins_stop snap (suc n) c h = rw (h, spins) refl

pub spins_more : (snap : Snapshot) (n : ℕ) (c : Course) → is_over snap c ≡ false → spins snap (suc n) c ≡ spins snap n (spin snap c)
unfolding spins
spins_more snap n c h = rw (h, spins) refl

pub enough : (snap : Snapshot) (n : ℕ) (c : Course) → requests_left c.bidders ≤ n → is_over snap (spins snap n c) ≡ true
enough snap zero c le = elim (cases_Bool (is_over snap c)) [
  | inl h ↦ rw (spins_stop snap zero c h) h
  | inr h ↦ absurd (let lt = spin_takes snap c h in omega arith)
]
enough snap (suc n) c le = elim (cases_Bool (is_over snap c)) [
  | inl h ↦ rw (spins_stop snap (suc n) c h) h
  | inr h ↦ rw (spins_more snap n c h) (enough snap n (spin snap c) (let lt = spin_takes snap c h in omega arith))
]
