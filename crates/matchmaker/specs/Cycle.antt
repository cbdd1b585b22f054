-- A negotiation cycle, request by request (HTCondor manual, The Negotiation Cycle). Its state is
-- what each submitter has left and the matches so far: which slots are unmatched, and how many each
-- submitter was given, are read off the matches.
use Rattle.std.specs.Prelude.{ℕ, ℤ, zero, suc, ◌+◌, ◌-◌, ◌*◌, ◌/◌, ◌^◌, List, [], ◌∷◌, ◌++◌, length, filter, Bool, true, false, not, ◌&&◌, ◌||◌, Option, Some, None, ◌==◌, nat_lt, min, max}
use Rattle.std.specs.List.{list_any, count_by, sum_by, best_of}
use Rattle.std.specs.declared.cmp.Ordering.{Ordering}
use Rattle.std.specs.Ordering.{is_lt, ordering_then, nat_cmp, int_cmp, bool_cmp}
use Rattle.std.specs.Cmp.Lexicographic.{slice_cmp}
use Rattle.std.specs.Option.{is_some}
use Rattle.std.specs.Str.{bytes_eq}
use Rattle.claim_id.specs.declared.numbers.SlotId.{SlotId}
use Rattle.pool_mail.specs.declared.matching.Request.{Request}
use Rattle.matchmaker.specs.declared.snapshot.Snapshot.{Snapshot}
use Rattle.matchmaker.specs.declared.snapshot.Submitter.{Submitter}
use Rattle.matchmaker.specs.declared.snapshot.Offer.{Offer}
use Rattle.matchmaker.specs.declared.course.Account.{Account}
use Rattle.matchmaker.specs.declared.course.Made.{Made}
use Rattle.matchmaker.specs.Offers.{fits, rank_of_slot, is_offered, is_by_priority}

abbrev pub account_of : Submitter → Account
account_of b =
    record { user = b.user; effective = b.effective; in_use = b.in_use; ceiling = b.ceiling }

-- a submitter and what it has left, in order
pub record Bidder : Type 0 where
  pub account : Account
  pub left : List Request

-- how far a cycle has come
pub record Course : Type 0 where
  pub bidders : List Bidder
  pub made : List Made

-- ---- one request

abbrev pub same_slot : SlotId → SlotId → Bool
same_slot a b = (a.machine == b.machine) && (a.slot == b.slot)

unfoldable pub is_unmatched : List Made → Offer → Bool
is_unmatched made o = not (list_any (λ m. same_slot m.slot o.slot) made)

-- the slots that a request may choose among: the unmatched ones that are offered to it and match it
unfoldable pub may_choose : Snapshot → Account → List Made → Request → Offer → Bool
may_choose s u made r o = is_unmatched made o && (is_offered s u r o && fits s.now r o)

unfoldable pub candidates : Snapshot → Account → List Made → Request → List Offer
candidates s u made r = filter (may_choose s u made r) s.slots

-- a slot with the rank that a request gives it
pub record Ranked : Type 0 where
  pub slot : Offer
  pub rank : ℤ

-- which of two slots a request would rather have: the greater rank, then the one without holder,
-- then the least name in bytes
unfoldable pub choice_order : Ranked → Ranked → Ordering
choice_order k l =
    ordering_then (int_cmp l.rank k.rank)
    (ordering_then (bool_cmp (is_some k.slot.holder) (is_some l.slot.holder))
    (slice_cmp nat_cmp k.slot.name l.slot.name))

abbrev pub ranked_for : ℕ → Request → Offer → Ranked
ranked_for now r o = record { slot = o; rank = rank_of_slot now r o }

unfoldable pub goes_before : ℕ → Request → Offer → Offer → Bool
goes_before now r o p = is_lt (choice_order (ranked_for now r o) (ranked_for now r p))

unfoldable pub first_of : ℕ → Request → List Offer → Option Offer
first_of now r [] = None
first_of now r (o ∷ os) = Some (best_of (goes_before now r) o os)

unfoldable pub choice : Snapshot → Account → List Made → Request → Option Offer
choice s u made r = first_of s.now r (candidates s u made r)

abbrev pub match_of : Snapshot → Account → Request → Offer → Made
match_of s u r o = record {
  user = u.user;
  slot = o.slot;
  matched = record { job = r.job; claim = o.claim; by_priority = is_by_priority s u r o };
}

-- ---- ceilings

-- how many slots the cycle gave to a user
unfoldable pub given : Account → List Made → ℕ
given u made = count_by (λ m. bytes_eq m.user u.user) made

-- how many slots of `share` a submitter may still be given, which has so many
unfoldable pub under_ceiling : Option ℕ → ℕ → ℕ → ℕ
under_ceiling None has share = share
under_ceiling (Some ceiling) has share = min share (ceiling - has)

unfoldable pub is_under : Option ℕ → ℕ → Bool
is_under None has = true
is_under (Some ceiling) has = nat_lt has ceiling

-- slots in use and slots matched count together
unfoldable pub is_below_ceiling : Account → List Made → Bool
is_below_ceiling u made = is_under u.ceiling (u.in_use + given u made)

-- ---- one submitter's turn: it takes its requests in order until it was given `most` slots, and a
-- request without a slot is rejected

unfoldable pub turn :
    Snapshot → Account → ℕ → List Request → List Made → (List Request) × (List Made)
turn s u most [] made = ([], made)
turn s u zero (r ∷ rs) made = (r ∷ rs, made)
turn s u (suc most) (r ∷ rs) made = elim (choice s u made r) [
  | None ↦ turn s u (suc most) rs made
  | Some o ↦ turn s u most rs (made ++ match_of s u r o ∷ [])
]

-- ---- a spin

unfoldable pub weight : Account → ℕ
weight u = 2 ^ 96 / u.effective

unfoldable pub share : ℕ → ℕ → Account → ℕ
share total weights u = total * weight u / weights

-- Each in order has its turn. The first has a share of at least `least`, each later one of at least
-- 0.
unfoldable pub turns : Snapshot → (Account → ℕ) → ℕ → List Bidder → List Made → Course
turns s shared least [] made = record { bidders = []; made = made }
turns s shared least (b ∷ bs) made =
    let most = under_ceiling b.account.ceiling
    (b.account.in_use + given b.account made) (max least (shared b.account)) in
    let t = turn s b.account most b.left made in
    let later = turns s shared 0 bs t.1 in
    let first : Bidder = record { account = b.account; left = t.0 } in
    record { bidders = first ∷ later.bidders; made = later.made }

unfoldable pub has_left : List Request → Bool
has_left [] = false
has_left (r ∷ rs) = true

-- a spin covers the submitters that have requests left and are below their ceiling
unfoldable pub takes_part : List Made → Bidder → Bool
takes_part made b = has_left b.left && is_below_ceiling b.account made

-- the fair share of the slots that are unmatched as a spin begins
unfoldable pub unmatched : List Offer → List Made → ℕ
unmatched slots made = count_by (is_unmatched made) slots

unfoldable pub spin_of : Snapshot → List Bidder → List Made → Course
spin_of s bs made =
    turns s (share (unmatched s.slots made) (sum_by (λ b. weight b.account) bs)) 1 bs made

-- those that take no part leave the cycle: they have no request left, or are at their ceiling
unfoldable pub players : Course → List Bidder
players c = filter (takes_part c.made) c.bidders

unfoldable pub is_over : Snapshot → Course → Bool
is_over s c = (length (players c) == 0) || (unmatched s.slots c.made == 0)

unfoldable pub spin : Snapshot → Course → Course
spin s c = spin_of s (players c) c.made

-- ---- a cycle

-- at most so many spins. Each takes a request, so that the number of requests is enough
unfoldable pub spins : Snapshot → ℕ → Course → Course
spins s zero c = c
spins s (suc n) c = elim (is_over s c) [ true ↦ c | false ↦ spins s n (spin s c) ]

unfoldable pub requests_left : List Bidder → ℕ
requests_left bs = sum_by (λ b. length b.left) bs

unfoldable pub last_course : Snapshot → List Bidder → Course
last_course s bs = spins s (requests_left bs) (record { bidders = bs; made = [] })

-- the matches of the submitters, in order, with their requests in order
unfoldable pub cycle_of : Snapshot → List Bidder → List Made
cycle_of s bs = (last_course s bs).made
