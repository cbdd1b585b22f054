-- Lists of what one judgement per autocluster and slot leaves for the other requests of the
-- autocluster.
use Rattle.std.specs.Prelude.{◌≡◌, ◌⊎◌, ℕ, ◌+◌, ◌*◌, ◌<◌, ◌≤◌, List, [], ◌∷◌, length, map, filter, get_or, set, cond, not, Bool, ◌&&◌, Option, Some, None, Vec, Contains}
use Rattle.std.specs.Global.{Global}
use Rattle.std.specs.List.{count_by, best_of}
use Rattle.std.specs.Option.{is_some}
use Rattle.std.specs.Ordering.{is_lt}
use Rattle.matchmaker.specs.declared.snapshot.Snapshot.{Snapshot}
use Rattle.matchmaker.specs.declared.snapshot.Offer.{Offer}
use Rattle.matchmaker.specs.declared.course.Account.{Account}
use Rattle.matchmaker.specs.declared.course.Made.{Made}
use Rattle.negotiate.specs.declared.grouping.Kept.{Kept}
use Rattle.negotiate.specs.declared.grouping.Clustered.{Clustered}
use Rattle.pool_mail.specs.declared.matching.Request.{Request}
use Rattle.matchmaker.specs.Offers.{fits, rank_of_slot, is_offered}
use Rattle.matchmaker.specs.Cycle.{Ranked, is_unmatched, choice_order, ranked_for}

-- the same matching slots and ranks
pub record Alike (s : Snapshot) (q r : Request) : Type 0 where
  pub same : (o : Offer) → Contains s.slots o
      → (fits s.now q o ≡ fits s.now r o) × (rank_of_slot s.now q o ≡ rank_of_slot s.now r o)

unfoldable pub fits_now : ℕ → List Made → Request → Offer → Bool
fits_now now made r o = is_unmatched made o && fits now r o

-- what a judgement of a request keeps of slots
unfoldable pub list_for : ℕ → List Offer → List Made → Request → List Ranked
list_for now slots made r = map (ranked_for now r) (filter (fits_now now made r) slots)

abbrev pub ranked : Kept → Ranked
ranked k = record { slot = k.slot.now; rank = k.rank }

abbrev pub all_ranked : List Kept → List Ranked
all_ranked ks = map ranked ks

-- of what is still unmatched the list has what a judgement of this request would keep now
pub record Serves (now : ℕ) (slots : List Offer) (made : List Made) (r : Request)
    (list : List Ranked) : Type 0 where
  pub is : filter (λ k. is_unmatched made k.slot) list ≡ list_for now slots made r

abbrev pub kept_before : Ranked → Ranked → Bool
kept_before k l = is_lt (choice_order k l)

unfoldable pub first_kept : List Ranked → Option Offer
first_kept [] = None
first_kept (k ∷ ks) = Some ((best_of kept_before k ks).slot)

abbrev pub is_free : Snapshot → Account → List Made → Request → Ranked → Bool
is_free s u made r k = is_unmatched made k.slot && is_offered s u r k.slot

unfoldable pub choice_in : Snapshot → Account → List Made → Request → List Ranked → Option Offer
choice_in s u made r list = first_kept (filter (is_free s u made r) list)

abbrev pub Lists : Type 0
Lists = List (Option (Vec Kept Global))

-- what is known of a submitter's lists, by the number of the autocluster
pub record Tables (s : Snapshot) (made : List Made) (lists : Lists) (left : List Clustered) :
    Type 0 where
  pub alike : (q r : Clustered) → Contains left q → Contains left r → q.cluster ≡ r.cluster
      → Alike s q.request r.request
  pub within : (r : Clustered) → Contains left r → r.cluster < length lists
  pub serves : (r : Clustered) → Contains left r → (v : Vec Kept Global)
      → get_or lists r.cluster None ≡ Some v
      → Serves s.now s.slots made r.request (all_ranked v.items)

-- how many autoclusters were not judged yet
unfoldable pub unjudged : Lists → ℕ
unjudged lists = count_by (λ o. not (is_some o)) lists

abbrev pub better_kept : Option Ranked → Ranked → Ranked
better_kept None k = k
better_kept (Some b) k = cond (kept_before k b) k b

-- the best of what was the best so far, and of what is left of a list
unfoldable pub best_kept : Option Ranked → List Ranked → Option Offer
best_kept None ks = first_kept ks
best_kept (Some b) ks = Some ((best_of kept_before b ks).slot)

-- a request's autocluster has a list: it had one, or it was judged just now
abbrev pub Seen : Snapshot → List Made → Clustered → Lists → Lists → Type 0
Seen s made r old new =
    ((v : Vec Kept Global) × (get_or old r.cluster None ≡ Some v) × (new ≡ old))
    ⊎ ((v : Vec Kept Global) × (get_or old r.cluster None ≡ None)
    × (all_ranked v.items ≡ list_for s.now s.slots made r.request)
    × (new ≡ set old r.cluster (Some v)))

-- a step for each slot, at most, for each autocluster that was judged since
abbrev pub CostsLists : ℕ → Lists → Lists → ℕ → ℕ → Type 0
CostsLists slots old new before after =
    after + unjudged new * slots ≤ before + unjudged old * slots
