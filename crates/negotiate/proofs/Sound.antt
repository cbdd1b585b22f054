-- What each match keeps, a whole cycle keeps; and two laws by it.
use Rattle.std.proofs.Common.{◌≡◌, ℕ, zero, suc, ◌+◌, ◌<◌, ◌≤◌, arith, List, [], ◌∷◌, ◌++◌, map, true, false, not, ◌&&◌, ◌||◌, cond, refl, sym, ap, ◌∙◌, Option, Some, None, subst, inl, inr}
use Rattle.std.specs.Prelude.{Bool, ◌⊎◌, max}
use Rattle.std.specs.Str.{bytes_eq}
use Rattle.std.specs.Cmp.Lexicographic.{nat_list_eq_equiv, bytes_decides}
use Rattle.std.proofs.lemmas.List.Sums.{sum_by-append}
use Rattle.std.specs.List.{filter, list_any, best_of, IsDistinct, sum_by}
use Rattle.std.proofs.lemmas.Bool.{cases_Bool, false≢true, lt-ltb, ltb-true}
use Rattle.std.proofs.lemmas.Cmp.{nat_eq_equiv, on_equiv}
use Rattle.std.specs.Cmp.{IsEquivalence, and_equiv}
use Rattle.claim_id.specs.declared.numbers.SlotId.{SlotId}
use Rattle.std.proofs.lemmas.List.{map_push}
use Rattle.std.proofs.lemmas.Map.Keys.{IsDistinct-push}
use Rattle.matchmaker.specs.Offers.{fits, is_offered}
use Rattle.matchmaker.specs.Cycle.{Bidder, Course, is_unmatched, may_choose, candidates, given, under_ceiling, is_under, is_below_ceiling, goes_before, first_of, choice, match_of, turn, turns, takes_part, players, is_over, spin, spin_of, spins, requests_left, last_course, cycle_of, same_slot}
use Rattle.negotiate.proofs.Members.{IsIn}
use Rattle.matchmaker.proofs.Turning.{turn_end, turn_stop, turn_none, turn_some, cases_Option}
use Rattle.matchmaker.proofs.Ending.{most_of, first_turn, turns_end, turns_more, spins_stop, spins_more}
use Rattle.pool_mail.specs.declared.matching.Request.{Request}
use Rattle.matchmaker.specs.declared.snapshot.Offer.{Offer}
use Rattle.matchmaker.specs.declared.snapshot.Snapshot.{Snapshot}
use Rattle.matchmaker.specs.declared.course.Account.{Account}
use Rattle.matchmaker.specs.declared.course.Made.{Made}

-- ---- what is chosen may be chosen

best_in : {A : Type 0} (beats : A → A → Bool) (a : A) (xs : List A) → IsIn (best_of beats a xs) (a ∷ xs)
best_in beats a [] = inl refl
best_in {A = A} beats a (x ∷ xs) = elim (beats x a) as (λ b. IsIn (best_of beats (cond b x a) xs) (a ∷ (x ∷ xs))) [
  | true ↦ inr (best_in beats x xs)
  | false ↦ second (best_in beats a xs)
] where
  second : {y : A} → (y ≡ a) ⊎ IsIn y xs → IsIn y (a ∷ (x ∷ xs))
  second (inl e) = inl e
  second (inr i) = inr (inr i)

of_filter : {A : Type 0} (p : A → Bool) (x : A) (xs : List A) → IsIn x (filter p xs) → IsIn x xs × (p x ≡ true)
of_filter p x [] i = absurd i
of_filter {A = A} p x (y ∷ ys) i = at (p y) refl i (of_filter p x ys) where
  at : (b : Bool) → p y ≡ b → IsIn x (cond b (y ∷ filter p ys) (filter p ys)) → (IsIn x (filter p ys) → IsIn x ys × (p x ≡ true)) → ((x ≡ y) ⊎ IsIn x ys) × (p x ≡ true)
  at true q (inl e) k = (inl e, rw e q)
  at true q (inr j) k = let w = k j in (inr w.0, w.1)
  at false q j k = let w = k j in (inr w.0, w.1)

first_in : (now : ℕ) (r : Request) (ss : List Offer) (s : Offer) → first_of now r ss ≡ Some s → IsIn s ss
unfolding first_of
first_in now r [] s e = absurd (let none : None ≡ Some s = e in cc)
first_in now r (t ∷ ts) s e = let same : best_of (goes_before now r) t ts ≡ s = cc in subst (λ x. IsIn x (t ∷ ts)) same (best_in (goes_before now r) t ts)

pub chosen_may : (snap : Snapshot) (u : Account) (made : List Made) (r : Request) (s : Offer) → choice snap u made r ≡ Some s → IsIn s snap.slots × (may_choose snap u made r s ≡ true)
unfolding choice candidates
chosen_may snap u made r s e = of_filter (may_choose snap u made r) s snap.slots (first_in snap.now r (filter (may_choose snap u made r) snap.slots) s e)

-- ---- what each match keeps

-- as long as a turn may go on, so many slots more are under the ceiling
abbrev Room : Option ℕ → ℕ → ℕ → Type 0
Room None has most = Unit {0}
Room (Some c) has most = 0 < most → most + has ≤ c

room_below : (ceiling : Option ℕ) (has most : ℕ) → 0 < most → Room ceiling has most → is_under ceiling has ≡ true
unfolding is_under
room_below None has most h r = refl
room_below (Some c) has most h r = let le = r h in lt-ltb has c (omega arith)

room_same : (ceiling : Option ℕ) (has later most : ℕ) → later ≡ has + 1 → Room ceiling has (suc most) → Room ceiling later most
room_same None has later most e r = tt
room_same (Some c) has later most e r = λ h. let le = r (omega arith) in omega arith

room_first : (ceiling : Option ℕ) (has share : ℕ) → Room ceiling has (under_ceiling ceiling has share)
unfolding under_ceiling
room_first None has share = tt
room_first (Some c) has share = λ h. omega arith

given_more : (snap : Snapshot) (u : Account) (r : Request) (s : Offer) (made : List Made) → given u (made ++ match_of snap u r s ∷ []) ≡ given u made + 1
unfolding given
given_more snap u r s made = sum_by-append (λ (n : Made). cond (bytes_eq n.user u.user) 1 0) made (match_of snap u r s ∷ [])
    ∙ (let one : sum_by (λ (n : Made). cond (bytes_eq n.user u.user) 1 0) (match_of snap u r s ∷ []) ≡ 1 = rw (nat_list_eq_equiv.refl u.user) refl in
    let e : given_now + sum_by (λ (n : Made). cond (bytes_eq n.user u.user) 1 0) (match_of snap u r s ∷ []) ≡ given_now + 1 = ap (λ (k : ℕ). given_now + k) one in e) where
      given_now : ℕ
      given_now = sum_by (λ (n : Made). cond (bytes_eq n.user u.user) 1 0) made

module _ (snap : Snapshot) (P : List Made → Type 0) (From : Account → Request → Type 0)
    (push : (u : Account) (r : Request) (made : List Made) (s : Offer) → From u r → is_below_ceiling u made ≡ true → choice snap u made r ≡ Some s → P made → P (made ++ match_of snap u r s ∷ [])) where
  AllFrom : List Bidder → Type 0
  AllFrom bs = (b : Bidder) (r : Request) → IsIn b bs → IsIn r b.left → From b.account r

  turn_keeps : (u : Account) (most : ℕ) (rs : List Request) (made : List Made) → Room u.ceiling (u.in_use + given u made) most → ((r : Request) → IsIn r rs → From u r) → P made →
      P (turn snap u most rs made).1 × ((r : Request) → IsIn r (turn snap u most rs made).0 → From u r)
  unfolding is_below_ceiling
  turn_keeps u most [] made room from p = rw (turn_end snap u most made) (p, from)
  turn_keeps u zero (r ∷ rs) made room from p = rw (turn_stop snap u (r ∷ rs) made) (p, from)
  turn_keeps u (suc most) (r ∷ rs) made room from p = elim (cases_Option (choice snap u made r)) [
    | inl e ↦ rw (turn_none snap u most r rs made e) (turn_keeps u (suc most) rs made room (λ q i. from q (inr i)) p)
    | inr w ↦ rw (turn_some snap u most r rs made w.0 w.1) (turn_keeps u most rs (made ++ match_of snap u r w.0 ∷ []) (room_same u.ceiling (u.in_use + given u made) _ most (let g = given_more snap u r w.0 made in omega arith) room) (λ q i. from q (inr i)) (push u r made w.0 (from r (inl refl)) (room_below u.ceiling (u.in_use + given u made) (suc most) (omega arith) room) w.1 p))
  ]

  first_keeps : (shared : Account → ℕ) (least : ℕ) (b : Bidder) (made : List Made) → ((r : Request) → IsIn r b.left → From b.account r) → P made →
      P (first_turn snap shared least b made).1 × ((r : Request) → IsIn r (first_turn snap shared least b made).0 → From b.account r)
  unfolding first_turn most_of
  first_keeps shared least b made from p = turn_keeps b.account (most_of shared least b.account made) b.left made (room_first b.account.ceiling (b.account.in_use + given b.account made) (max least (shared b.account))) from p

  turns_keep : (shared : Account → ℕ) (least : ℕ) (bs : List Bidder) (made : List Made) → AllFrom bs → P made →
      P (turns snap shared least bs made).made × AllFrom (turns snap shared least bs made).bidders
  unfolding AllFrom
  turns_keep shared least [] made from p = rw (turns_end snap shared least made) (p, from)
  turns_keep shared least (b ∷ bs) made from p =
      let w = first_keeps shared least b made (λ r i. from b r (inl refl) i) p in
      let k = turns_keep shared 0 bs (first_turn snap shared least b made).1 (λ c r i j. from c r (inr i) j) w.0 in
      rw (turns_more snap shared least b bs made) (k.0, both w.1 k.1) where
        both : ((r : Request) → IsIn r (first_turn snap shared least b made).0 → From b.account r) → AllFrom (turns snap shared 0 bs (first_turn snap shared least b made).1).bidders →
            AllFrom (record { account = b.account; left = (first_turn snap shared least b made).0 } ∷ (turns snap shared 0 bs (first_turn snap shared least b made).1).bidders)
        both f g c r (inl e) j = subst (λ (x : Bidder). IsIn r x.left → From x.account r) (sym e) (f r) j
        both f g c r (inr i) j = g c r i j

  spins_keep : (n : ℕ) (c : Course) → AllFrom c.bidders → P c.made → P (spins snap n c).made
  unfolding spins AllFrom spin spin_of players
  spins_keep zero c from p = p
  spins_keep (suc n) c from p = elim (cases_Bool (is_over snap c)) [
    | inl h ↦ rw (spins_stop snap (suc n) c h) p
    | inr h ↦ rw (spins_more snap n c h)
        (let k = turns_keep _ 1 (filter (takes_part c.made) c.bidders) c.made (λ b r i j. from b r (of_filter (takes_part c.made) b c.bidders i).0 j) p in
        spins_keep n (spin snap c) k.1 k.0)
  ]

  pub cycle_keeps : (bs : List Bidder) → ((b : Bidder) (r : Request) → IsIn b bs → IsIn r b.left → From b.account r) → P [] → P (cycle_of snap bs)
  unfolding cycle_of last_course AllFrom
  cycle_keeps bs from p = spins_keep (requests_left bs) (record { bidders = bs; made = [] }) from p

-- ---- two laws

and_parts : (x y : Bool) → (x && y) ≡ true → (x ≡ true) × (y ≡ true)
and_parts true y h = (refl, h)
and_parts false y h = (h, absurd (false≢true h))

in_push : {A : Type 0} (x m : A) (xs : List A) → IsIn x (xs ++ m ∷ []) → IsIn x xs ⊎ (x ≡ m)
in_push x m [] (inl e) = inr e
in_push x m [] (inr i) = absurd i
in_push x m (y ∷ ys) (inl e) = inl (inl e)
in_push x m (y ∷ ys) (inr i) = elim (in_push x m ys i) [ inl j ↦ inl (inr j) | inr e ↦ inr e ]

pub record Of (bs : List Bidder) (u : Account) (r : Request) : Type 0 where
  pub bidder : Bidder
  pub here : IsIn bidder bs
  pub same : bidder.account ≡ u
  pub left : IsIn r bidder.left

pub record IsMatchOf (snap : Snapshot) (bs : List Bidder) (m : Made) : Type 0 where
  pub account : Account
  pub request : Request
  pub slot : Offer
  pub from : Of bs account request
  pub of_slots : IsIn slot snap.slots
  pub is : m ≡ match_of snap account request slot
  pub offered : is_offered snap account request slot ≡ true
  pub matching : fits snap.now request slot ≡ true

pub sound : (snap : Snapshot) (bs : List Bidder) (m : Made) → IsIn m (cycle_of snap bs) → IsMatchOf snap bs m
unfolding may_choose
sound snap bs = cycle_keeps snap (λ made. (m : Made) → IsIn m made → IsMatchOf snap bs m) (Of bs)
    (λ u r made s from below e all m i. elim (in_push m (match_of snap u r s) made i) [
      | inl j ↦ all m j
      | inr is ↦
          let may = chosen_may snap u made r s e in
          let parts = and_parts (is_unmatched made s) (is_offered snap u r s && fits snap.now r s) may.1 in
          let rest = and_parts (is_offered snap u r s) (fits snap.now r s) parts.1 in
          record { account = u; request = r; slot = s; from = from; of_slots = may.0; is = is; offered = rest.0; matching = rest.1 }
    ])
    bs (λ b r i j. record { bidder = b; here = i; same = refl; left = j }) (λ m i. absurd i)

slot_equiv : IsEquivalence same_slot
slot_equiv = and_equiv (on_equiv (λ (a : SlotId). a.machine) nat_eq_equiv) (on_equiv (λ (a : SlotId). a.slot) nat_eq_equiv)

not_named : (made : List Made) (n : SlotId) → list_any (λ (m : Made). same_slot m.slot n) made ≡ false → list_any (λ y. same_slot n y) (map (λ (m : Made). m.slot) made) ≡ false
not_named [] n h = refl
not_named (m ∷ made) n h = rw (slot_equiv.symm n m.slot) (at (same_slot m.slot n) (not_named made n) h) where
  at : (b : Bool) → (list_any (λ (k : Made). same_slot k.slot n) made ≡ false → list_any (λ y. same_slot n y) (map (λ (k : Made). k.slot) made) ≡ false) →
      (b || list_any (λ (k : Made). same_slot k.slot n) made) ≡ false → (b || list_any (λ y. same_slot n y) (map (λ (k : Made). k.slot) made)) ≡ false
  at true k e = e
  at false k e = k e

unnamed : (made : List Made) (s : Offer) → is_unmatched made s ≡ true → list_any (λ (m : Made). same_slot m.slot s.slot) made ≡ false
unfolding is_unmatched
unnamed made s e = bool (list_any (λ (m : Made). same_slot m.slot s.slot) made) e where
  bool : (b : Bool) → not b ≡ true → b ≡ false
  bool true h = absurd (false≢true h)
  bool false h = refl

pub gives_once : (snap : Snapshot) (bs : List Bidder) → IsDistinct same_slot (map (λ (m : Made). m.slot) (cycle_of snap bs))
unfolding may_choose IsDistinct
gives_once snap bs = cycle_keeps snap (λ made. IsDistinct same_slot (map (λ (m : Made). m.slot) made)) (λ u r. Unit {0})
    (λ u r made s from below e all.
    let may = chosen_may snap u made r s e in
    let parts = and_parts (is_unmatched made s) (is_offered snap u r s && fits snap.now r s) may.1 in
    rw (map_push (λ (m : Made). m.slot) made (match_of snap u r s)) (IsDistinct-push slot_equiv (map (λ (m : Made). m.slot) made) s.slot all (not_named made s.slot (unnamed made s parts.0))))
    bs (λ b r i j. tt) tt

-- no more than the ceiling, or than before, where the submitters of one user are one
given_other : (v : Account) (made : List Made) (m : Made) → bytes_eq m.user v.user ≡ false → given v (made ++ m ∷ []) ≡ given v made
unfolding given
given_other v made m e = sum_by-append (λ (n : Made). cond (bytes_eq n.user v.user) 1 0) made (m ∷ [])
    ∙ (let none : sum_by (λ (n : Made). cond (bytes_eq n.user v.user) 1 0) (m ∷ []) ≡ 0 = rw e refl in
    let k : now + sum_by (λ (n : Made). cond (bytes_eq n.user v.user) 1 0) (m ∷ []) ≡ now = omega arith in k) where
      now : ℕ
      now = sum_by (λ (n : Made). cond (bytes_eq n.user v.user) 1 0) made

given_none : (v : Account) → given v [] ≡ 0
unfolding given
given_none v = refl

pub under_it : (snap : Snapshot) (bs : List Bidder) (v : Account) (c : ℕ) → v.ceiling ≡ Some c → ((b : Bidder) → IsIn b bs → b.account.user ≡ v.user → b.account ≡ v) →
    v.in_use + given v (cycle_of snap bs) ≤ max c v.in_use
unfolding is_below_ceiling is_under
under_it snap bs v c e one = cycle_keeps snap (λ made. v.in_use + given v made ≤ max c v.in_use) (Of bs)
    (λ u r made s from below chosen le. elim (cases_Bool (bytes_eq u.user v.user)) [
      | inl q ↦
          let same : u ≡ v = sym from.same ∙ one from.bidder from.here (ap (λ (x : Account). x.user) from.same ∙ (bytes_decides u.user v.user).0 q) in
          let under : is_under v.ceiling (v.in_use + given v made) ≡ true = subst (λ (x : Account). is_under x.ceiling (x.in_use + given x made) ≡ true) same below in
          let lt : v.in_use + given v made < c = ltb-true _ c (subst (λ (o : Option ℕ). is_under o (v.in_use + given v made) ≡ true) e under) in
          let g : given v (made ++ match_of snap u r s ∷ []) ≡ given v made + 1 = subst (λ (x : Account). given v (made ++ match_of snap x r s ∷ []) ≡ given v made + 1) (sym same) (given_more snap v r s made) in
          omega arith
      | inr q ↦ rw (given_other v made (match_of snap u r s) q) le
    ])
    bs (λ b r i j. record { bidder = b; here = i; same = refl; left = j }) (let z = given_none v in omega arith)
