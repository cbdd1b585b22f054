-- What a cycle leaves idle, and why.
use Rattle.std.proofs.Common.{◌≡◌, ℕ, zero, suc, ◌+◌, List, [], ◌∷◌, length, Bool, true, false, cond, refl, sym, ap, ◌∙◌, arith, inl, inr, subst}
use Rattle.std.specs.Prelude.{◌==◌, ◌⊎◌}
use Rattle.std.specs.List.{filter, count_by}
use Rattle.std.proofs.lemmas.List.Sums.{sum_by-cons}
use Rattle.std.proofs.lemmas.Bool.{cases_Bool, false≢true, and_cases, eqb-true, or_cases}
use Rattle.matchmaker.specs.Cycle.{Bidder, Course, is_unmatched, may_choose, is_below_ceiling, turns, has_left, takes_part, unmatched, spin_of, players, is_over, spin, spins, requests_left, last_course, cycle_of}
use Rattle.negotiate.specs.Laws.{is_matched}
use Rattle.negotiate.proofs.Members.{IsIn}
use Rattle.negotiate.proofs.Growing.{Grows, Grows-refl, Grows-trans, stays_full}
use Rattle.negotiate.proofs.Settling.{Settled, HasNone, Turned, turned, stays_settled}
use Rattle.matchmaker.proofs.Ending.{most_of, first_turn, turns_end, turns_more, spins_stop, spins_more, enough}
use Rattle.pool_mail.specs.declared.matching.Request.{Request}
use Rattle.matchmaker.specs.declared.snapshot.Snapshot.{Snapshot}
use Rattle.matchmaker.specs.declared.course.Account.{Account}
use Rattle.matchmaker.specs.declared.course.Made.{Made}

pub record LeftIn (u : Account) (r : Request) (bs : List Bidder) : Type 0 where
  pub bidder : Bidder
  pub here : IsIn bidder bs
  pub account : bidder.account ≡ u
  pub left : IsIn r bidder.left

later_in : {u : Account} {r : Request} {bs : List Bidder} (b : Bidder) → LeftIn u r bs → LeftIn u r (b ∷ bs)
later_in b k = record { bidder = k.bidder; here = inr k.here; account = k.account; left = k.left }

-- ---- what the turns of a spin do to one request

pub record Spun (snap : Snapshot) (bs : List Bidder) (made : List Made) (c : Course) : Type 0 where
  pub grows : Grows made c.made
  pub fate : (u : Account) (r : Request) → LeftIn u r bs → Settled snap u c.made r ⊎ LeftIn u r c.bidders

first_turned : (snap : Snapshot) (shared : Account → ℕ) (least : ℕ) (b : Bidder) (made : List Made) →
    Turned snap b.account b.left made (first_turn snap shared least b made)
unfolding first_turn
first_turned snap shared least b made = turned snap b.account (most_of shared least b.account made) b.left made

join : (snap : Snapshot) (b : Bidder) (bs : List Bidder) (made : List Made) (t : (List Request) × (List Made)) (c : Course) →
    Turned snap b.account b.left made t → Spun snap bs t.1 c →
    Spun snap (b ∷ bs) made (record { bidders = record { account = b.account; left = t.0 } ∷ c.bidders; made = c.made })
join snap b bs made t c w k = record {
  grows = Grows-trans w.grows k.grows;
  fate = λ u r l. at u r l l.here;
} where
  After : Account → Request → Type 0
  After u r = Settled snap u c.made r ⊎ LeftIn u r (record { account = b.account; left = t.0 } ∷ c.bidders)

  first : (r : Request) → IsIn r b.left → After b.account r
  first r i = elim (w.fate r i) [
    | inl s ↦ inl (stays_settled k.grows s)
    | inr j ↦ inr (record { bidder = record { account = b.account; left = t.0 }; here = inl refl; account = refl; left = j })
  ]

  at : (u : Account) (r : Request) (l : LeftIn u r (b ∷ bs)) → (l.bidder ≡ b) ⊎ IsIn l.bidder bs → After u r
  at u r l (inl e) =
      let same : b.account ≡ u = ap (λ (x : Bidder). x.account) (sym e) ∙ l.account in
      subst (λ x. After x r) same (first r (subst (λ (x : Bidder). IsIn r x.left) e l.left))
  at u r l (inr i) = elim (k.fate u r (record { bidder = l.bidder; here = i; account = l.account; left = l.left })) [
    | inl s ↦ inl s
    | inr j ↦ inr (later_in _ j)
  ]

pub spun : (snap : Snapshot) (shared : Account → ℕ) (least : ℕ) (bs : List Bidder) (made : List Made) → Spun snap bs made (turns snap shared least bs made)
spun snap shared least [] made = rw (turns_end snap shared least made) (record { grows = Grows-refl made; fate = λ u r l. absurd l.here })
spun snap shared least (b ∷ bs) made = rw (turns_more snap shared least b bs made)
    (join snap b bs made (first_turn snap shared least b made) _ (first_turned snap shared least b made)
    (spun snap shared 0 bs (first_turn snap shared least b made).1))

-- ---- a request's fate

pub record Fate (snap : Snapshot) (u : Account) (r : Request) (c : Course) : Type 0 where
  pub so : Settled snap u c.made r ⊎ ((is_below_ceiling u c.made ≡ false) ⊎ LeftIn u r c.bidders)

has_some : (r : Request) (rs : List Request) → IsIn r rs → has_left rs ≡ true
unfolding has_left
has_some r [] i = absurd i
has_some r (x ∷ rs) i = refl

in_filter : (p : Bidder → Bool) (b : Bidder) (bs : List Bidder) → IsIn b bs → p b ≡ true → IsIn b (filter p bs)
in_filter p b [] i h = absurd i
in_filter p b (x ∷ bs) (inl e) h = rw (subst (λ y. p y ≡ true) e h) (inl e)
in_filter p b (x ∷ bs) (inr i) h = elim (p x) as (λ t. IsIn b (cond t (x ∷ filter p bs) (filter p bs))) [
  | true ↦ inr (in_filter p b bs i h)
  | false ↦ in_filter p b bs i h
]

no_part : (made : List Made) (b : Bidder) (r : Request) → IsIn r b.left → takes_part made b ≡ false → is_below_ceiling b.account made ≡ false
unfolding takes_part
no_part made b r i h = elim (and_cases (has_left b.left) (is_below_ceiling b.account made) h) [
  | inl e ↦ absurd (false≢true (sym e ∙ has_some r b.left i))
  | inr e ↦ e
]

spun_all : (snap : Snapshot) (c : Course) → Spun snap (players c) c.made (spin snap c)
unfolding spin spin_of
spun_all snap c = spun snap _ 1 (players c) c.made

fate_more : (snap : Snapshot) (u : Account) (r : Request) (c : Course) → Fate snap u r c → Fate snap u r (spin snap c)
unfolding players
fate_more snap u r c k = elim k.so [
  | inl s ↦ record { so = inl (stays_settled w.grows s) }
  | inr f ↦ elim f [
    | inl e ↦ record { so = inr (inl (stays_full w.grows u e)) }
    | inr l ↦ elim (cases_Bool (takes_part c.made l.bidder)) [
      | inl h ↦ elim (w.fate u r (record { bidder = l.bidder; here = in_filter (takes_part c.made) l.bidder c.bidders l.here h; account = l.account; left = l.left })) [
        | inl s ↦ record { so = inl s }
        | inr j ↦ record { so = inr (inr j) }
      ]
      | inr h ↦ record { so = inr (inl (stays_full w.grows u (subst (λ x. is_below_ceiling x c.made ≡ false) l.account (no_part c.made l.bidder r l.left h)))) }
    ]
  ]
] where
  w : Spun snap (players c) c.made (spin snap c)
  w = spun_all snap c

fate_all : (snap : Snapshot) (u : Account) (r : Request) (n : ℕ) (c : Course) → Fate snap u r c → Fate snap u r (spins snap n c)
unfolding spins
fate_all snap u r zero c k = k
fate_all snap u r (suc n) c k = elim (cases_Bool (is_over snap c)) [
  | inl h ↦ rw (spins_stop snap (suc n) c h) k
  | inr h ↦ rw (spins_more snap n c h) (fate_all snap u r n (spin snap c) (fate_more snap u r c k))
]

-- ---- the end

none_count : {A : Type 0} (p : A → Bool) (xs : List A) → count_by p xs ≡ 0 → (x : A) → IsIn x xs → p x ≡ false
none_count p [] e x i = absurd i
none_count {A = A} p (y ∷ ys) e x i = at (p y) refl i (none_count p ys) where
  sums : cond (p y) 1 0 + count_by p ys ≡ 0
  sums = sym (sum_by-cons (λ z. cond (p z) 1 0) y ys) ∙ e

  at : (b : Bool) → p y ≡ b → (x ≡ y) ⊎ IsIn x ys → (count_by p ys ≡ 0 → (x : A) → IsIn x ys → p x ≡ false) → p x ≡ false
  at true q j k = absurd (let s : cond true 1 0 + count_by p ys ≡ 0 = subst (λ b. cond b 1 0 + count_by p ys ≡ 0) q sums in omega arith)
  at false q (inl j) k = rw j q
  at false q (inr j) k = k (omega (arith, sums)) x j

none_free : (snap : Snapshot) (u : Account) (r : Request) (made : List Made) → unmatched snap.slots made ≡ 0 → HasNone snap u made r
unfolding unmatched may_choose
none_free snap u r made e s i = rw (none_count (is_unmatched made) snap.slots e s i) refl

none_plays : (made : List Made) (bs : List Bidder) → length (filter (takes_part made) bs) ≡ 0 → (b : Bidder) → IsIn b bs → takes_part made b ≡ false
none_plays made bs e b i = elim (cases_Bool (takes_part made b)) [
  | inl h ↦ absurd (not_empty b (filter (takes_part made) bs) (in_filter (takes_part made) b bs i h) e)
  | inr h ↦ h
] where
  not_empty : (b : Bidder) (cs : List Bidder) → IsIn b cs → length cs ≡ 0 → ⊥
  not_empty b [] i e = i
  not_empty b (c ∷ cs) i e = omega arith

at_end : (snap : Snapshot) (u : Account) (r : Request) (c : Course) → is_over snap c ≡ true → Fate snap u r c →
    is_matched u r c.made ≡ false → (is_below_ceiling u c.made ≡ false) ⊎ HasNone snap u c.made r
unfolding is_over players
at_end snap u r c over k idle = elim k.so [
  | inl s ↦ elim s.so [ inl e ↦ absurd (false≢true (sym idle ∙ e)) | inr f ↦ inr f ]
  | inr f ↦ elim f [
    | inl e ↦ inl e
    | inr l ↦ elim (or_cases (length (filter (takes_part c.made) c.bidders) == 0) (unmatched snap.slots c.made == 0) over) [
      | inl e ↦ inl (subst (λ x. is_below_ceiling x c.made ≡ false) l.account
          (no_part c.made l.bidder r l.left (none_plays c.made c.bidders (eqb-true _ _ e) l.bidder l.here)))
      | inr e ↦ inr (none_free snap u r c.made (eqb-true _ _ e))
    ]
  ]
]

pub idle_for_cause : (snap : Snapshot) (bs : List Bidder) (b : Bidder) (r : Request) → IsIn b bs → IsIn r b.left → is_matched b.account r (cycle_of snap bs) ≡ false →
    (is_below_ceiling b.account (cycle_of snap bs) ≡ false) ⊎ HasNone snap b.account (cycle_of snap bs) r
unfolding cycle_of last_course
idle_for_cause snap bs b r i j idle =
    at_end snap b.account r _ (enough snap (requests_left bs) (record { bidders = bs; made = [] }) (omega arith))
    (fate_all snap b.account r (requests_left bs) (record { bidders = bs; made = [] })
    (record { so = inr (inr (record { bidder = b; here = i; account = refl; left = j })) })) idle
